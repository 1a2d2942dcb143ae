-- The steps that short ones represent.
use Rattle.std.specs.Prelude.{◌≡◌, ℕ, ◌+◌, ◌-◌, ◌*◌, ◌<◌, ◌/◌, ◌%◌, ◌^◌, List, [], ◌∷◌, ◌++◌, length, slice_index_or, Option, Some, None, IfSome, option_map, option_to_list}
use Rattle.generational_errors.specs.declared.error.Location.{Location}
use Rattle.generational_core.specs.declared.boxes.GenerationalBoxId.{GenerationalBoxId}
use Rattle.generational_core.specs.declared.boxes.GenerationalPointer.{GenerationalPointer}
use Rattle.generational_core.specs.declared.owner.OwnerId.{OwnerId}
use Rattle.generational_core.specs.declared.steps.StepCall.TheVariants as call
use Rattle.generational_core.specs.Boxes.{box_of, id_of}
use Rattle.generational_core.specs.Names.{Name}
use Rattle.shared_records.specs.declared.short.FarStep.{FarStep}
use Rattle.shared_records.specs.declared.short.Reached.{Reached}
use Rattle.shared_records.specs.declared.short.Short.{Short}
use Rattle.shared_records.specs.declared.short.Short.TheVariants as short
use Rattle.shared_records.specs.declared.short.ShortName.{ShortName}
use Rattle.shared_records.specs.declared.shorten.ItemNames.{ItemNames}
use Rattle.shared_records.specs.declared.shorten.ItemNames.TheVariants as names
use Rattle.shared_records.specs.declared.step.Step.{Step}
use Rattle.shared_records.specs.declared.step.StepReply.{StepReply}
use Rattle.shared_records.specs.declared.step.StepReply.TheVariants as reply
use Rattle.shared_records.specs.Kinds.{step_of}
use Rattle.shared_records.specs.Letters.{lettered, lettered_step}

-- no location and no step: what is past the end of a table
abbrev pub absent_location : Location
absent_location = record { file = record { ref_ptr = (0, 0); now = [] }; line = 0; column = 0 }

abbrev pub no_step : Step
no_step = step_of 0 call.Owner reply.Done

-- the location with a number in a table, and whether it is this one by its letters
abbrev pub numbered_location : List Location → ℕ → Location
numbered_location locations i = slice_index_or locations i absent_location

pub record IsNumberOf (locations : List Location) (i : ℕ) (l : Location) : Type 0 where
  pub within : i < length locations
  pub same : lettered (numbered_location locations i) ≡ lettered l

-- a table is another one with more at its end
pub record Extends (before after : List Location) : Type 0 where
  pub more : List Location
  pub is : after ≡ before ++ more

-- the next ticket after a step with this reply: each owner value takes one too
abbrev pub next_after : ℕ → StepReply → ℕ
next_after next (reply.Reader t) = (t + 1) % 2 ^ 64
next_after next (reply.Writer t) = (t + 1) % 2 ^ 64
next_after next (reply.Owner o) = (next + 1) % 2 ^ 64
next_after next _ = next

-- the name that a short one represents, and its item, which has the slot in two parts
abbrev pub full : ShortName → Name
full n = record { slot = n.slot; generation = n.generation }

abbrev pub name_item : ShortName → Short
name_item n = short.Name (n.slot / 65536) (n.slot % 65536) n.generation

-- what items count on: locations by their numbers, steps that are kept whole, and steps with locations
-- of their own
pub record Tables : Type 0 where
  pub locations : List Location
  pub long : List Step
  pub far : List FarStep

abbrev pub tables : List Location → List Step → List FarStep → Tables
tables locations long far = record { locations = locations; long = long; far = far }

abbrev pub own_locations : FarStep → List Location
own_locations f = f.first ∷ f.second ∷ []

abbrev pub no_far : FarStep
no_far = record { short = short.Name 0 0 0; first = absent_location; second = absent_location }

-- an item's locations lie in a table of this length
abbrev pub HasLocationsWithin : ℕ → Short → Type 0
HasLocationsWithin p (short.Leak w a) = a < p
HasLocationsWithin p (short.Insert w a back) = a < p
HasLocationsWithin p (short.LeakRc w a) = a < p
HasLocationsWithin p (short.InsertRc w a back) = a < p
HasLocationsWithin p (short.LeakReference w a b) = (a < p) × (b < p)
HasLocationsWithin p (short.Read w a b) = (a < p) × (b < p)
HasLocationsWithin p (short.Write w a b) = (a < p) × (b < p)
HasLocationsWithin p (short.ReadDropped w a b) = (a < p) × (b < p)
HasLocationsWithin p (short.Set w a) = a < p
HasLocationsWithin p (short.End w a) = a < p
HasLocationsWithin p (short.PointTo w a b) = (a < p) × (b < p)
HasLocationsWithin p x = Unit {0}

-- an item's numbers lie in the tables
abbrev pub IsItemWithin : Tables → Short → Type 0
IsItemWithin t (short.Long high low) = high * 4294967296 + low < length t.long
IsItemWithin t (short.Far high low) = high * 4294967296 + low < length t.far
IsItemWithin t x = HasLocationsWithin (length t.locations) x

abbrev pub AreItemsWithin : Tables → List Short → Type 0
AreItemsWithin t [] = Unit {0}
AreItemsWithin t (x ∷ xs) = IsItemWithin t x × AreItemsWithin t xs

-- the locations of far steps lie in their own tables
abbrev pub AreOwn : List FarStep → Type 0
AreOwn [] = Unit {0}
AreOwn (f ∷ fs) = HasLocationsWithin 2 f.short × AreOwn fs

-- the initial state of decoding, with this next ticket; after a cell is named; after an item, which may
-- be a name; and after a step, if it is one
abbrev pub no_name : ShortName
no_name = record { slot = 0; generation = 0 }

abbrev pub reached_first : ℕ → Reached
reached_first next = record { next = next; last = no_name; before = no_name }

abbrev pub naming : Reached → ShortName → Reached
naming r n = record r { last = n; before = r.last }

abbrev pub reached_named : Reached → Short → Reached
reached_named r (short.Name high low generation) =
    naming r (record { slot = high * 65536 + low; generation = generation })
reached_named r x = r

abbrev pub advanced : Reached → Option Step → Reached
advanced r None = r
advanced r (Some step) = record r { next = next_after r.next step.reply }

module _ (number : ℕ) where
  abbrev pub owner_id : ℕ → OwnerId
  owner_id key = record { store = number; key = key }

  module _ (locations : List Location) where
    abbrev pub pointer_made_at : ℕ → ShortName → GenerationalPointer
    pointer_made_at a n = box_of number (full n) (numbered_location locations a)

    -- The step that an item alone represents, and none for a name. A borrow that begins and a new owner
    -- have the next ticket, and any other ticket and key are stored as the difference to it. A box is of
    -- the cell that was named last; of two cells, one is that which was named before.
    abbrev pub item_step : Reached → Short → Option Step
    item_step r (short.Leak w a) =
        Some (step_of w (call.Leak (numbered_location locations a)) (reply.Made (pointer_made_at a r.last)))
    item_step r (short.Insert w a back) =
        Some (step_of w (call.Insert (owner_id (r.next - back)) (numbered_location locations a))
        (reply.Made (pointer_made_at a r.last)))
    item_step r (short.LeakRc w a) =
        Some (step_of w (call.LeakRc (numbered_location locations a))
        (reply.MadeShared (id_of number (full r.before)) (pointer_made_at a r.last)))
    item_step r (short.InsertRc w a back) =
        Some (step_of w (call.InsertRc (owner_id (r.next - back)) (numbered_location locations a))
        (reply.MadeShared (id_of number (full r.before)) (pointer_made_at a r.last)))
    item_step r (short.LeakReference w a b) =
        Some (step_of w (call.LeakReference (pointer_made_at a r.before)) (reply.Made (pointer_made_at b r.last)))
    item_step r (short.Owner w) = Some (step_of w call.Owner (reply.Owner (owner_id r.next)))
    item_step r (short.ReleaseOwner w back) =
        Some (step_of w (call.ReleaseOwner (owner_id (r.next - back))) reply.Done)
    item_step r (short.Read w a b) =
        Some (step_of w (call.Read (pointer_made_at a r.last) (numbered_location locations b)) (reply.Reader r.next))
    item_step r (short.Write w a b) =
        Some (step_of w (call.Write (pointer_made_at a r.last) (numbered_location locations b)) (reply.Writer r.next))
    item_step r (short.ReadDropped w a b) =
        Some (step_of w (call.Read (pointer_made_at a r.last) (numbered_location locations b))
        (reply.Dropped (numbered_location locations a)))
    item_step r (short.Set w a) = Some (step_of w (call.Set (pointer_made_at a r.last)) reply.Done)
    item_step r (short.End w a) = Some (step_of w (call.ManuallyDrop (pointer_made_at a r.last)) reply.Done)
    item_step r (short.PointTo w a b) =
        Some (step_of w (call.PointTo (pointer_made_at a r.last) (pointer_made_at b r.before)) reply.Done)
    item_step r (short.ReleaseRead w back) =
        Some (step_of w (call.ReleaseRead (r.next - back)) reply.Done)
    item_step r (short.ReleaseWrite w back) =
        Some (step_of w (call.ReleaseWrite (r.next - back)) reply.Done)
    item_step r x = None

  module _ (t : Tables) where
    -- the step that an item represents
    abbrev pub step_at : Reached → Short → Option Step
    step_at r (short.Long high low) =
        Some (slice_index_or t.long (high * 4294967296 + low) no_step)
    step_at r (short.Far high low) =
        let f = slice_index_or t.far (high * 4294967296 + low) no_far in
        item_step (own_locations f) r f.short
    step_at r x = item_step t.locations r x

    abbrev pub reached_after : Reached → Short → Reached
    reached_after r x = advanced (reached_named r x) (step_at r x)

    -- the steps for which these are in order, and what decoding has come to after them
    abbrev pub decode : Reached → List Short → List Step
    decode r [] = []
    decode r (x ∷ xs) = option_to_list (step_at r x) ++ decode (reached_after r x) xs

    abbrev pub reached_by : Reached → List Short → Reached
    reached_by r [] = r
    reached_by r (x ∷ xs) = reached_by (reached_after r x) xs

-- what decoding has come to after these names, their items, and whether each fits into its item
abbrev pub naming_all : Reached → ItemNames → Reached
naming_all r names.None = r
naming_all r (names.One n) = naming r n
naming_all r (names.Two n m) = naming (naming r n) m

abbrev pub name_items : ItemNames → List Short
name_items names.None = []
name_items (names.One n) = name_item n ∷ []
name_items (names.Two n m) = name_item n ∷ name_item m ∷ []

abbrev pub AreShort : ItemNames → Type 0
AreShort names.None = Unit {0}
AreShort (names.One n) = n.slot < 16777216
AreShort (names.Two n m) = (n.slot < 16777216) × (m.slot < 16777216)

-- items go on by names alone, and so does what decoding has come to
pub record IsNaming (before after : List Short) (r s : Reached) : Type 0 where
  pub all : ItemNames
  pub items : after ≡ before ++ name_items all
  pub reached : s ≡ naming_all r all

-- the cells with these ids, as far as there are such, are the one that was named last and that before it
pub record AreNamed (number : ℕ) (r : Reached) (before last : Option GenerationalBoxId) : Type 0 where
  pub before_is : IfSome before (λ id. id ≡ id_of number (full r.before))
  pub last_is : IfSome last (λ id. id ≡ id_of number (full r.last))

-- an item alone represents this step, by letters, in this state of decoding
pub record StandsFor (number : ℕ) (locations : List Location) (r : Reached) (step : Step) (x : Short)
    : Type 0 where
  pub within : HasLocationsWithin (length locations) x
  pub same : option_map lettered_step (item_step number locations r x) ≡ Some (lettered_step step)
  pub goes_on : advanced (reached_named r x) (item_step number locations r x) ≡ advanced r (Some step)

-- a step is stored separately, with its own table or whole, in this state of decoding: what is kept so
-- goes on, and the item represents the step, by letters, whatever locations have numbers
pub record IsApart (number : ℕ) (r : Reached) (step : Step) (long longer : List Step) (far farther : List FarStep)
    (x : Short) : Type 0 where
  pub more_long : List Step
  pub long_is : longer ≡ long ++ more_long
  pub more_far : List FarStep
  pub far_is : farther ≡ far ++ more_far
  pub within : (locations : List Location) → IsItemWithin (tables locations longer farther) x
  pub same : (locations : List Location)
      → option_map lettered_step (step_at number (tables locations longer farther) r x)
      ≡ Some (lettered_step step)
  pub goes_on : (locations : List Location)
      → reached_after number (tables locations longer farther) r x ≡ advanced r (Some step)

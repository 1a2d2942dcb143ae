-- Records, written and read back.
use Rattle.generational_errors.specs.{declared.error.Location.Location, Texts.same_location}
use Rattle.location_list.specs.Locations as found
use Rattle.shared_records.specs
use specs.Decoding.{advanced, reached_after, AreOwn, AreItemsWithin, decode, Extends, IsNumberOf, IsApart, IsNaming, HasLocationsWithin}
use specs.Decoding.{IsItemWithin, name_items, naming_all, no_far, no_step, absent_location, own_locations}
use specs.Decoding.{item_step, reached_by, StandsFor, step_at, Tables, tables}
use specs.declared.short.FarStep.{FarStep}
use specs.Letters.{AppendsStep, lettered, lettered_step}
use specs.{declared.shorten.ItemNames.ItemNames, declared.short.Reached.Reached, declared.short.Short.Short}
use specs.{declared.short.ShortName.ShortName, declared.step.Step.Step}
use Rattle.std.proofs.Common.{ap, append_assoc, arith, get_or, length, length-append, List, None}
use Rattle.std.proofs.Common.{Option, option_map, option_to_list, refl, rules, Some, suc, sym}
use Rattle.std.proofs.Common.{ℕ, [], ◌%◌, ◌*◌, ◌++◌, ◌+◌, ◌/◌, ◌<◌, ◌∙◌, ◌∷◌, ◌≡◌, ◌≤◌}
use Rattle.std.proofs.lemmas.List.{append-nil, get_or_append_left}
use Rattle.std.proofs.lemmas.Option.{get_or_from_slice_get, slice_get_within}
use Rattle.std.proofs.lemmas.Slice.Eq.{bytes_eq-Decides}
use Rattle.std.proofs.{lemmas.Grind.common_steps, Math.Seq.get_or-append_seam}
use Rattle.std.specs.{Bool.Decides, Option.unwrap_or}
use Rattle.shared_records.specs.declared.short.Short.TheVariants as short

-- ==== the test of two locations decides whether they are the same by their letters

locations_decide : (a b : Location) → Decides (same_location a b) (lettered a ≡ lettered b)
locations_decide a b = grind (arith, common_steps, bytes_eq-Decides a.file.now b.file.now)

-- a location that is found in a list is in the table
pub found_location : (locations : List Location) (i : ℕ) (at : Location) → found.IsAt locations i at → IsNumberOf locations i at
found_location locations i at h = grind (
  arith,
  common_steps,
  locations_decide at h.kept,
  get_or_from_slice_get locations i h.kept absent_location h.there,
  slice_get_within locations i h.kept h.there,
  h.alike,
)

-- a list goes on from none; and two locations, the second of which may be the first, from what there is of them
pub extends_none : (locations : List Location) → Extends [] locations
extends_none locations = record { more = locations; is = refl }

pub extends_own : (a b : Option Location) (x y : Location) → a ≡ Some x → y ≡ unwrap_or b x
    → Extends (option_to_list a ++ option_to_list b) (x ∷ y ∷ [])
extends_own a None x y is same = record { more = y ∷ []; is = rw is refl }
extends_own a (Some z) x y is same = record { more = []; is = rw (is, same) refl }

-- ==== decoding another item, and when the tables grow

-- a table is another one with more at the end of each list
pub record Grows (t u : Tables) : Type 0 where
  pub locations : List Location
  pub long : List Step
  pub far : List FarStep
  pub is : u ≡ tables (t.locations ++ locations) (t.long ++ long) (t.far ++ far)

-- within a table, and in a longer one
plain_grows : (p q : ℕ) (x : Short) → p ≤ q → HasLocationsWithin p x → HasLocationsWithin q x
plain_grows p q x h w = grind arith

within_grows : (t u : Tables) (x : Short) → Grows t u → IsItemWithin t x → IsItemWithin u x
within_grows t u x g w =
    let p = ap (λ (v : Tables). length v.locations) g.is ∙ length-append t.locations g.locations in
    let q = ap (λ (v : Tables). length v.long) g.is ∙ length-append t.long g.long in
    let r = ap (λ (v : Tables). length v.far) g.is ∙ length-append t.far g.far in
    grind (arith, plain_grows (length t.locations) (length u.locations) x)

all_within_grow : (t u : Tables) (xs : List Short) → Grows t u → AreItemsWithin t xs → AreItemsWithin u xs
all_within_grow t u [] g w = tt
all_within_grow t u (x ∷ xs) g w = (within_grows t u x g w.0, all_within_grow t u xs g w.1)

within_both : (t : Tables) (xs ys : List Short) → AreItemsWithin t xs → AreItemsWithin t ys → AreItemsWithin t (xs ++ ys)
within_both t [] ys w v = v
within_both t (x ∷ xs) ys w v = (w.0, within_both t xs ys w.1 v)

pub within_at : (t : Tables) (xs : List Short) (i : ℕ) (d : Short) → i < length xs → AreItemsWithin t xs
    → IsItemWithin t (get_or xs i d)
within_at t (x ∷ xs) (suc i) d h w = within_at t xs i d (omega arith) w.1
within_at t xs i d h w = grind arith

-- far steps, one more of them, and one of them
pub own_snoc : (fs : List FarStep) (f : FarStep) → AreOwn fs → HasLocationsWithin 2 f.short → AreOwn (fs ++ f ∷ [])
own_snoc [] f o h = (h, tt)
own_snoc (g ∷ fs) f o h = (o.0, own_snoc fs f o.1 h)

pub own_at : (fs : List FarStep) (i : ℕ) (d : FarStep) → i < length fs → AreOwn fs
    → HasLocationsWithin 2 (get_or fs i d).short
own_at (f ∷ fs) (suc i) d h o = own_at fs i d (omega arith) o.1
own_at fs i d h o = grind arith

-- another item, or some
module _ (number : ℕ) (t : Tables) where
  decode_both : (r : Reached) (xs ys : List Short) → decode number t r (xs ++ ys)
      ≡ decode number t r xs ++ decode number t (reached_by number t r xs) ys
  decode_both r [] ys = refl
  decode_both r (x ∷ xs) ys = rw (decode_both (reached_after number t r x) xs ys) (simp append_assoc)

  pub decode_snoc : (r : Reached) (xs : List Short) (x : Short)
      → decode number t r (xs ++ x ∷ [])
      ≡ decode number t r xs ++ option_to_list (step_at number t (reached_by number t r xs) x)
  decode_snoc r xs x = rw (decode_both r xs (x ∷ []), append-nil) refl

  -- as many steps as items at most
  pub decode_length : (r : Reached) (xs : List Short) → length (decode number t r xs) ≤ length xs
  decode_length r [] = omega arith
  decode_length r (x ∷ xs) =
      grind (arith, decode_length (reached_after number t r x) xs, length-append {A = Step})

  pub reached_both : (r : Reached) (xs ys : List Short)
      → reached_by number t r (xs ++ ys) ≡ reached_by number t (reached_by number t r xs) ys
  reached_both r [] ys = refl
  reached_both r (x ∷ xs) ys = reached_both (reached_after number t r x) xs ys

-- an item has the long step's number in two parts, and its name's slot
pub long_is : (i : ℕ) → i / 4294967296 * 4294967296 + i % 4294967296 ≡ i
long_is i = omega arith

name_is : (n : ShortName)
    → record { slot = n.slot / 65536 * 65536 + n.slot % 65536; generation = n.generation } ≡ n
name_is n = grind arith

-- names are no steps
module _ (number : ℕ) (t : Tables) (r : Reached) (xs : List Short) where
  names_within : (all : ItemNames) → AreItemsWithin t xs → AreItemsWithin t (xs ++ name_items all)
  names_within all w = within_both t xs (name_items all) w (grind arith)

  names_kept : (all : ItemNames) → decode number t r (xs ++ name_items all) ≡ decode number t r xs
  names_kept all = grind (arith, decode_both, append-nil)

  names_reached : (all : ItemNames)
      → reached_by number t r (xs ++ name_items all) ≡ naming_all (reached_by number t r xs) all
  names_reached all = grind (arith, reached_both, name_is)

-- when the tables grow
plain_stays : (number : ℕ) (locations more : List Location) (r : Reached) (x : Short) → HasLocationsWithin (length locations) x
    → item_step number (locations ++ more) r x ≡ item_step number locations r x
plain_stays number locations more r x h = grind (arith, get_or_append_left)

module _ (number : ℕ) (t u : Tables) (g : Grows t u) where
  step_grows : (r : Reached) (x : Short) → IsItemWithin t x → step_at number u r x ≡ step_at number t r x
  step_grows r x h = rw (g.is)
      (grind (arith, get_or_append_left, plain_stays number t.locations g.locations r x))

  decode_grows : (r : Reached) (xs : List Short) → AreItemsWithin t xs
      → decode number u r xs ≡ decode number t r xs
  decode_grows r [] h = refl
  decode_grows r (x ∷ xs) h =
      rw (step_grows r x h.0, decode_grows (reached_after number t r x) xs h.1) refl

  reached_grows : (r : Reached) (xs : List Short) → AreItemsWithin t xs
      → reached_by number u r xs ≡ reached_by number t r xs
  reached_grows r [] h = refl
  reached_grows r (x ∷ xs) h = rw (step_grows r x h.0) (reached_grows (reached_after number t r x) xs h.1)

-- a list that goes on by a step that is this one by its letters
appends_one : (before longer : List Step) (o : Option Step) (step : Step)
    → longer ≡ before ++ option_to_list o
    → option_map lettered_step o ≡ Some (lettered_step step) → AppendsStep before step longer
appends_one before longer None step is same = cc
appends_one before longer (Some s) step is same = record { last = s; is = is; same = search rules }

-- names, and then another item, after which the tables may be longer
module _ (number : ℕ) (start : Reached) {t u : Tables} {xs ys more : List Short} {r now : Reached} (x : Short)
    (names : IsNaming xs ys r now) (grows : Grows t u) (is_more : more ≡ ys ++ x ∷ [])
    (within : AreItemsWithin t xs) (is_r : r ≡ reached_by number t start xs) where
  named_within : AreItemsWithin t ys
  named_within = rw names.items (names_within number t start xs names.all within)

  kept_steps : decode number u start ys ≡ decode number t start xs
  kept_steps = rw (decode_grows number t u grows start ys named_within)
      (rw (names.items, names_kept number t start xs names.all) refl)

  kept_reached : now ≡ reached_by number u start ys
  kept_reached = rw (reached_grows number t u grows start ys named_within)
      (rw (names.items, names_reached number t start xs names.all, ← is_r) names.reached)

  pub grown_within : IsItemWithin u x → AreItemsWithin u more
  grown_within one =
      rw is_more (within_both u ys (x ∷ []) (all_within_grow t u ys grows named_within) (one, tt))

  pub grown_reached : reached_after number u now x ≡ reached_by number u start more
  grown_reached = rw (is_more, reached_both number u start ys (x ∷ []), ← kept_reached) refl

  pub grown_steps : (step : Step)
      → option_map lettered_step (step_at number u now x) ≡ Some (lettered_step step)
      → AppendsStep (decode number t start xs) step (decode number u start more)
  grown_steps step same = appends_one _ _ (step_at number u now x) step
      (rw (is_more, decode_snoc number u start ys x, ← kept_reached, kept_steps) refl) same

-- ==== what a step is kept as

-- an item that alone represents a step does so over more locations
pub stands_wider : (number : ℕ) (locations wider : List Location) (r : Reached) (step : Step) (x : Short)
    → Extends locations wider → StandsFor number locations r step x → StandsFor number wider r step x
stands_wider number locations wider r step x table stands =
    let longer = ap length table.is ∙ length-append locations table.more in
    let stays = plain_stays number locations table.more r x stands.within in record {
      within = plain_grows (length locations) (length wider) x (omega arith) stands.within;
      same = rw (table.is, stays) stands.same;
      goes_on = rw (table.is, stays) stands.goes_on;
    }

-- the tables with more locations, with one more long step, and with one more far one
module _ (t : Tables) {wider : List Location} (table : Extends t.locations wider) where
  pub grows_wider : Grows t (tables wider t.long t.far)
  grows_wider = record {
    locations = table.more;
    long = [];
    far = [];
    is = rw (table.is, append-nil t.long, append-nil t.far) refl;
  }

  pub grows_apart : {number : ℕ} {r : Reached} {step : Step} {longer : List Step} {farther : List FarStep}
      {x : Short} → IsApart number r step t.long longer t.far farther x → Grows t (tables wider longer farther)
  grows_apart a = record {
    locations = table.more;
    long = a.more_long;
    far = a.more_far;
    is = rw (table.is, a.long_is, a.far_is) refl;
  }

-- an item that isn't stored elsewhere represents its step alone
pub stands_by_itself : (number : ℕ) (t : Tables) (r : Reached) (x : Short)
    → ((high low : ℕ) → x ≡ short.Long high low → ⊥) → ((high low : ℕ) → x ≡ short.Far high low → ⊥)
    → step_at number t r x ≡ item_step number t.locations r x
stands_by_itself number t r (short.Long high low) long far = absurd (long high low refl)
stands_by_itself number t r (short.Far high low) long far = absurd (far high low refl)
stands_by_itself number t r x long far = grind arith

-- an item that alone represents a step represents it in any tables with these locations
module _ (number : ℕ) (t : Tables) {r : Reached} {step : Step} {x : Short}
    (stands : StandsFor number t.locations r step x) where
  pub plain_within : IsItemWithin t x
  plain_within = grind (arith, stands.within, stands.same)

  pub plain_same : option_map lettered_step (step_at number t r x) ≡ Some (lettered_step step)
  plain_same = grind (arith, stands.same)

  pub plain_goes_on : reached_after number t r x ≡ advanced r (Some step)
  plain_goes_on = grind (arith, stands.same, stands.goes_on)

-- the items of the long step and of the far one with a number, which they have in two parts
abbrev long_item : ℕ → Short
long_item i = short.Long (i / 4294967296) (i % 4294967296)

abbrev far_item : ℕ → Short
far_item i = short.Far (i / 4294967296) (i % 4294967296)

-- the newest of the long steps, and of the far ones
pub long_last : (long longer : List Step) (step : Step) → longer ≡ long ++ step ∷ []
    → get_or longer (length long / 4294967296 * 4294967296 + length long % 4294967296) no_step ≡ step
long_last long longer step is = rw (long_is (length long), is) (get_or-append_seam long step [] no_step)

far_last : (far farther : List FarStep) (f : FarStep) → farther ≡ far ++ f ∷ []
    → get_or farther (length far / 4294967296 * 4294967296 + length far % 4294967296) no_far ≡ f
far_last far farther f is = rw (long_is (length far), is) (get_or-append_seam far f [] no_far)

-- their items lie within them
last_within : {A : Type 0} (xs more : List A) (x : A) → more ≡ xs ++ x ∷ []
    → length xs / 4294967296 * 4294967296 + length xs % 4294967296 < length more
last_within xs more x is =
    let longer = ap length is ∙ length-append xs (x ∷ []) in
    let whole = long_is (length xs) in
    omega arith

-- a step is kept apart whole, and with a table of its own
module _ (number : ℕ) (r : Reached) {step : Step} where
  pub is_whole : (long : List Step) {longer : List Step} (far : List FarStep) → longer ≡ long ++ step ∷ []
      → IsApart number r step long longer far far (long_item (length long))
  is_whole long {longer} far is =
      let same = long_last long longer step is in record {
        more_long = step ∷ [];
        long_is = is;
        more_far = [];
        far_is = sym (append-nil far);
        within = λ locations. last_within long longer step is;
        same = λ locations. ap (λ (s : Step). Some (lettered_step s)) same;
        goes_on = λ locations. ap (λ (s : Step). advanced r (Some s)) same;
      }

  pub is_far : (long : List Step) (far : List FarStep) {farther : List FarStep} (f : FarStep)
      → farther ≡ far ++ f ∷ [] → StandsFor number (own_locations f) r step f.short
      → IsApart number r step long long far farther (far_item (length far))
  is_far long far {farther} f is stands =
      let last = far_last far farther f is in record {
        more_long = [];
        long_is = sym (append-nil long);
        more_far = f ∷ [];
        far_is = is;
        within = λ locations. last_within far farther f is;
        same = λ locations. rw last stands.same;
        goes_on = λ locations. rw last (grind (arith, stands.same, stands.goes_on));
      }

-- Images: the state that one describes, and when a store can have it.
use Rattle.std.specs.Prelude.{◌≡◌, ◌<◌, ◌≤◌, ◌+◌, ◌-◌, ◌&&◌, ℕ, zero, suc, Bool, true, false}
use Rattle.std.specs.Prelude.{nat_eq, nat_lt, List, [], ◌∷◌, ◌++◌, Option, Some, None, length}
use Rattle.std.specs.Prelude.{slice_get}
use Rattle.std.specs.List.{list_any}
use Rattle.std.specs.FinMap as map
use Rattle.std.specs.FinSet as set
use Rattle.generational_core.specs.Names.{Name}
use Rattle.generational_core.specs.Cells.{Cell}
use Rattle.generational_core.specs.Cells.Cell.{Value, Shared, Ref}
use Rattle.generational_core.specs.Cells.Content.{Here}
use Rattle.generational_core.specs.Slots.{last_generation}
use Rattle.generational_core.specs.State.{State}
use Rattle.store_parts.specs.Lists.{how_many}
use Rattle.store_images.specs.declared.image.CellImage.{CellImage}
use Rattle.store_images.specs.declared.image.CellImage.TheVariants as saved
use Rattle.store_images.specs.declared.image.Image.{Image}
use Rattle.store_images.specs.declared.image.ImageFault.{ImageFault}
use Rattle.store_images.specs.declared.image.ImageFault.TheVariants as fault
use Rattle.store_images.specs.declared.image.LoadError.{LoadError}
use Rattle.store_images.specs.declared.image.LoadError.TheVariants as load
use Rattle.store_images.specs.declared.image.SlotImage.{SlotImage}

-- count names of a slot, upwards from a generation
abbrev pub names_told : ℕ → ℕ → ℕ → List Name
names_told slot from zero = []
names_told slot from (suc count) =
    record { slot = slot; generation = from + count } ∷ names_told slot from count

module _ {T : Type 0} where
  -- ---- the state that an image describes

  -- a cell, which has no borrow
  abbrev pub cell_told : CellImage T → Option (Cell T)
  cell_told saved.Empty = None
  cell_told (saved.Value v l) = Some (Value (Here v []) l)
  cell_told (saved.Shared v l) = Some (Shared (Here v []) l)
  cell_told (saved.Reference s g l) = Some (Ref (record { slot = s; generation = g }) l)

  abbrev pub entry_told : ℕ → ℕ → Option (Cell T) → List (Name × Cell T)
  entry_told slot g None = []
  entry_told slot g (Some c) = (record { slot = slot; generation = g }, c) ∷ []

  -- the live cells of the slots from the i-th on, each under its slot's generation
  abbrev pub cells_told : ℕ → List (SlotImage T) → List (Name × Cell T)
  cells_told i [] = []
  cells_told i (s ∷ slots) =
      entry_told i s.generation (cell_told s.cell) ++ cells_told (i + 1) slots

  -- their issued names: each slot's generations from the first one to that of its last cell
  abbrev pub given_told : ℕ → ℕ → List (SlotImage T) → List Name
  given_told start i [] = []
  given_told start i (s ∷ slots) =
      names_told i start (s.generation + 1 - start) ++ given_told start (i + 1) slots

  -- the state that an image describes
  unfoldable pub told : Image T → State T
  told i = record {
    number = i.number;
    cells = map.from_entries (cells_told 0 i.slots.items);
    given = set.from_list (given_told i.start 0 i.slots.items);
    owners = map.empty;
    next = i.next;
    peak = i.peak;
    start = i.start;
  }

  -- ---- when a store can have it

  -- a slot is live or free: it isn't retired
  abbrev pub may_be_used : ℕ → CellImage T → Bool
  may_be_used g saved.Empty = nat_lt g last_generation
  may_be_used g c = true

  abbrev pub is_usable : SlotImage T → Bool
  is_usable s = may_be_used s.generation s.cell

  -- a slot has a shared value, under this generation
  abbrev pub has_shared : CellImage T → Bool
  has_shared (saved.Shared v l) = true
  has_shared c = false

  abbrev pub is_shared_in : Option (SlotImage T) → ℕ → Bool
  is_shared_in None g = false
  is_shared_in (Some s) g = has_shared s.cell && nat_eq s.generation g

  -- a cell is a reference to a cell of the k-th slot, and some slot's cell is
  abbrev pub refers_to_slot : ℕ → CellImage T → Bool
  refers_to_slot k (saved.Reference s g l) = nat_eq k s
  refers_to_slot k c = false

  abbrev pub is_referred_to : List (SlotImage T) → ℕ → Bool
  is_referred_to slots k = list_any (λ s. refers_to_slot k s.cell) slots

  -- a slot's generation isn't below the first one
  abbrev pub HasBegun : ℕ → Option (SlotImage T) → Type 0
  HasBegun start None = Unit {0}
  HasBegun start (Some s) = start ≤ s.generation

  -- if a slot's cell is a reference, it refers to a shared value
  abbrev pub HasTargetIn : List (SlotImage T) → CellImage T → Type 0
  HasTargetIn slots (saved.Reference s g l) = is_shared_in (slice_get slots s) g ≡ true
  HasTargetIn slots c = Unit {0}

  abbrev pub HasTarget : List (SlotImage T) → Option (SlotImage T) → Type 0
  HasTarget slots None = Unit {0}
  HasTarget slots (Some s) = HasTargetIn slots s.cell

  -- if the k-th slot has a shared value, a reference refers to it
  abbrev pub IsReferredTo : List (SlotImage T) → ℕ → Option (SlotImage T) → Type 0
  IsReferredTo slots k None = Unit {0}
  IsReferredTo slots k (Some s) = has_shared s.cell ≡ true → is_referred_to slots k ≡ true

  -- An image that a store can have.
  pub record IsWholeImage (i : Image T) : Type 0 where
    pub begun : (k : ℕ) → HasBegun i.start (slice_get i.slots.items k)
    pub targets : (k : ℕ) → HasTarget i.slots.items (slice_get i.slots.items k)
    pub shared : (k : ℕ) → IsReferredTo i.slots.items k (slice_get i.slots.items k)
    -- the live and the free slots are no more than the peak, which is no more than the slots
    pub enough : how_many is_usable i.slots.items ≤ i.peak
    pub few : i.peak ≤ length i.slots.items

  -- what is wrong with an image that no store can have
  abbrev pub IsFault : Image T → ImageFault → Type 0
  IsFault i (fault.EarlyGeneration k) = ¬ HasBegun i.start (slice_get i.slots.items k)
  IsFault i (fault.DanglingReference k) = ¬ HasTarget i.slots.items (slice_get i.slots.items k)
  IsFault i (fault.UnreferencedValue k) = ¬ IsReferredTo i.slots.items k (slice_get i.slots.items k)
  IsFault i fault.LowPeak = i.peak < how_many is_usable i.slots.items
  IsFault i fault.HighPeak = length i.slots.items < i.peak

  -- why it isn't loaded: memory may run out at any image
  abbrev pub IsLoadError : Image T → LoadError → Type 0
  IsLoadError i load.OutOfMemory = Unit {0}
  IsLoadError i (load.Unsound f) = IsFault i f

-- Slots that are made of an image's, and images of slots.
use Rattle.std.specs.Prelude.{◌≡◌, ◌<◌, ◌+◌, ℕ, Bool, not, ◌&&◌, nat_lt, List, [], ◌∷◌, slice_get, length, IfSome}
use Rattle.std.specs.Ordering.{nat_cmp}
use Rattle.std.specs.FinSet as set
use Rattle.generational_core.specs.Borrowing.{write_refusal}
use Rattle.generational_core.specs.Cells.Content.{Here}
use Rattle.std.specs.Prelude.{Option, Some, None, option_map, true}
use Rattle.generational_core.specs.Cells.{Cell, is_shared}
use Rattle.generational_core.specs.Cells.Cell.{Ref}
use Rattle.store_cells.specs.Entry.{cell_under}
use Rattle.generational_core.specs.Slots.{last_generation}
use Rattle.store_cells.specs.declared.entry.CellKind.TheVariants as kind
use Rattle.store_cells.specs.Entry.{Entry, Kept, content_in, is_live}
use Rattle.store_cells.specs.Entry.Kept.{Empty, Live, Refers}
use Rattle.store_images.specs.declared.image.CellImage.{CellImage}
use Rattle.store_images.specs.declared.image.CellImage.TheVariants as saved
use Rattle.store_images.specs.declared.image.SlotImage.{SlotImage}
use Rattle.store_parts.specs.Lists.{how_many}
use Rattle.store_slots.specs.SlotsState.{UsableCount, is_reusable, is_spent, IsSlotTable, state_of}

module _ {T : Type 0} where
  -- what a slot holds that is made of this image
  abbrev pub kept_told : CellImage T → Kept T
  kept_told saved.Empty = Empty
  kept_told (saved.Value v l) = Live kind.Value (Here v []) l
  kept_told (saved.Shared v l) = Live kind.Shared (Here v []) l
  kept_told (saved.Reference s g l) = Refers (record { slot = s; generation = g }) l

  -- such a slot, before references are counted
  abbrev pub slot_told : SlotImage T → Entry T
  slot_told s = record { generation = s.generation; kept = kept_told s.cell; references = 0 }

  -- a reference's slot has a number of 32 bits
  abbrev pub HasSmallTarget : CellImage T → Type 0
  HasSmallTarget (saved.Reference s g l) = s < 4294967295
  HasSmallTarget c = Unit {0}

  abbrev pub HaveSmallTargets : List (SlotImage T) → Type 0
  HaveSmallTargets slots = (k : ℕ) → IfSome (slice_get slots k) (λ s. HasSmallTarget s.cell)

  -- whether a slot without a cell is never used again
  abbrev pub is_retired_entry : Entry T → Bool
  is_retired_entry e = not (is_live e.kept) && not (nat_lt e.generation last_generation)

  -- the free slots among these are pooled, and the others that have no cell are counted
  pub record ArePooled (slots : List (Entry T)) (free : set.FinSet nat_cmp) (retired : ℕ) : Type 0 where
    pub pooled : (k : ℕ) → set.contains free k ≡ is_reusable (slice_get slots k)
    pub stocked : set.len free ≡ how_many is_spent slots
    pub counted : how_many (λ e. is_live e.kept) slots + set.len free + retired ≡ length slots

  -- what a reference names is a cell of these slots
  abbrev pub IsTargetWithin : List (Entry T) → Option (Cell T) → Type 0
  IsTargetWithin slots (Some (Ref m l)) = is_shared (cell_under slots m) ≡ true
  IsTargetWithin slots c = Unit {0}

  -- the same slots, except for their counts of references: they represent the same state
  pub record AreRecounted (old new : List (Entry T)) : Type 0 where
    pub long : length new ≡ length old
    pub state : (start peak : ℕ) → state_of start peak new ≡ state_of start peak old
    pub table : {free : set.FinSet nat_cmp} {rooms start : ℕ} {counts : UsableCount}
        → IsSlotTable (record { free = free; rooms = rooms; start = start; counts = counts; slots = old })
        → IsSlotTable (record { free = free; rooms = rooms; start = start; counts = counts; slots = new })
    pub kept : (k : ℕ) → option_map (λ e. e.kept) (slice_get new k) ≡ option_map (λ e. e.kept) (slice_get old k)

module _ {T : Type 0} (Copies : T → T → Type 0) where
  -- the image of what a slot holds, with a copy of its value; a borrowed value has none
  abbrev pub IsCellImage : Kept T → CellImage T → Type 0
  IsCellImage Empty c = c ≡ saved.Empty
  IsCellImage (Live kind.Value (Here v []) l) c = (w : T) × Copies v w × (c ≡ saved.Value w l)
  IsCellImage (Live kind.Shared (Here v []) l) c =
      (w : T) × Copies v w × (c ≡ saved.Shared w l)
  IsCellImage (Live k content l) c = ⊥
  IsCellImage (Refers m l) c = c ≡ saved.Reference m.slot m.generation l

  -- the image of a slot, and of each slot of a list
  abbrev pub IsSlotImage : Entry T → SlotImage T → Type 0
  IsSlotImage e s = (s.generation ≡ e.generation) × IsCellImage e.kept s.cell

  abbrev pub AreSlotImages : List (Entry T) → List (SlotImage T) → Type 0
  AreSlotImages [] [] = Unit {0}
  AreSlotImages (e ∷ slots) (s ∷ images) = IsSlotImage e s × AreSlotImages slots images
  AreSlotImages _ _ = ⊥

module _ {T : Type 0} where
  -- there is no borrow at a slot's cell
  abbrev pub AreUnborrowed : List (Entry T) → Type 0
  AreUnborrowed slots =
      (k : ℕ) → IfSome (slice_get slots k) (λ e. write_refusal (content_in e.kept) ≡ None)

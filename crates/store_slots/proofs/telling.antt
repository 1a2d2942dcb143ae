-- The slots of an image represent the state that it describes.
use Rattle.std.proofs.Common.{◌≡◌, ◌+◌, ◌-◌, ◌++◌, ◌∷◌, [], ℕ, zero, suc, List, Some, None, Option, refl, subst, ap}
use Rattle.std.proofs.Common.{map as list_map}
use Rattle.std.specs.FinMap as map
use Rattle.generational_core.specs.Names.{Name}
use Rattle.generational_core.specs.Cells.{Cell}
use Rattle.store_cells.specs.Entry.{cell_of}
use Rattle.store_images.specs.declared.image.CellImage.{CellImage}
use Rattle.store_images.specs.declared.image.CellImage.TheVariants as saved
use Rattle.store_images.specs.declared.image.Image.{Image}
use Rattle.store_images.specs.declared.image.SlotImage.{SlotImage}
use Rattle.store_images.specs.Images.{cell_told, cells_told, entry_told, given_told, names_told, told, IsWholeImage}
use Rattle.generational_core.specs.State.{IsSound}
use Rattle.store_slots.proofs.sounding.{told_sound}
use Rattle.store_slots.specs.ImageSlots.{kept_told, slot_told}
use Rattle.store_slots.specs.SlotsState.{cells_of, given_from, given_of, live_from, names_up, state_of, with_cell, with_records}

names_same : (slot from count : ℕ) → names_up slot from count ≡ names_told slot from count
names_same slot from zero = refl
names_same slot from (suc count) = ap (λ r. record { slot = slot; generation = from + count } ∷ r) (names_same slot from count)

module _ {T : Type 0} where
  same_cell : (c : CellImage T) → cell_of (kept_told c) ≡ cell_told c
  same_cell saved.Empty = refl
  same_cell (saved.Value v l) = refl
  same_cell (saved.Shared v l) = refl
  same_cell (saved.Reference s g l) = refl

  same_entry : (i g : ℕ) (c : Option (Cell T)) (rest : List (Name × Cell T))
      → with_cell (record { slot = i; generation = g }) c rest ≡ entry_told i g c ++ rest
  same_entry i g None rest = refl
  same_entry i g (Some c) rest = refl

  cells_same : (i : ℕ) (slots : List (SlotImage T)) → live_from i (list_map slot_told slots) ≡ cells_told i slots
  cells_same i [] = refl
  cells_same i (s ∷ slots) =
      rw (cells_same (i + 1) slots, same_cell s.cell) (same_entry i s.generation (cell_told s.cell) _)

  given_same : (start i : ℕ) (slots : List (SlotImage T))
      → given_from start i (list_map slot_told slots) ≡ given_told start i slots
  given_same start i [] = refl
  given_same start i (s ∷ slots) =
      rw (given_same start (i + 1) slots, names_same i start (s.generation + 1 - start)) refl

  pub tells : (i : Image T)
      → with_records (state_of i.start i.peak (list_map slot_told i.slots.items)) i.number map.empty i.next ≡ told i
  unfolding cells_of given_of told
  tells i = rw (cells_same 0 i.slots.items, given_same i.start 0 i.slots.items) refl

  -- so a whole image describes a sound state
  pub whole_sound : (i : Image T) → IsWholeImage i → IsSound (told i)
  whole_sound i w =
      subst IsSound (tells i)
      (told_sound i.slots.items i.start i.peak i.number i.next w.begun w.targets w.shared)

-- Ids of an image, in a store that is made of it under another number.
use Rattle.std.proofs.Common.{◌≡◌, arith, if◌then◌else◌, is_some, map as list_map, nat_eq, None, Option, option_map, refl, Some, slice_get, ℕ}
use Rattle.std.proofs.lemmas.Bool.Decides.{nat_tests}
use Rattle.std.proofs.lemmas.Option.{slice_get-map}
use Rattle.std.specs.FinMap as map
use Rattle.generational_core.specs.Names.{Name}
use Rattle.store_cells.specs.Entry.{cell_in, cell_of}
use Rattle.store_images.specs.Adopting.{generation_if, has_generation, live_generation}
use Rattle.store_images.specs.Images.{told}
use Rattle.store_images.specs.declared.image.CellImage.{CellImage}
use Rattle.store_images.specs.declared.image.CellImage.TheVariants as saved
use Rattle.store_images.specs.declared.image.Image.{Image}
use Rattle.store_images.specs.declared.image.SlotImage.{SlotImage}
use Rattle.store_slots.specs.ImageSlots.{kept_told, slot_told}
use Rattle.store_slots.proofs.loading.{told_at}
use Rattle.store_slots.proofs.states.Counting.Changes.{get_cells}
use Rattle.store_slots.proofs.telling.{tells}
-- if each copy is its value, the states are the same
pub use Rattle.store_slots.proofs.saving.{same_state}

module _ {T : Type 0} where
  live_in : (o : Option (SlotImage T)) (g : ℕ)
      → has_generation (option_map live_generation o) g ≡ is_some (cell_in (option_map slot_told o) g)
  live_in None g = refl
  live_in (Some s) g = at s.cell
    where
      at : (c : CellImage T) → has_generation (Some (generation_if c s.generation)) g
          ≡ is_some (if nat_eq g s.generation then cell_of (kept_told c) else None)
      at saved.Empty = grind (arith, nat_tests)
      at (saved.Value v l) = grind (arith, nat_tests)
      at (saved.Shared v l) = grind (arith, nat_tests)
      at (saved.Reference t h l) = grind (arith, nat_tests)

  -- the cells that are live in an image are those whose slots have that generation
  pub live_told : (i : Image T) (n : Name)
      → has_generation (slice_get (list_map live_generation i.slots.items) n.slot) n.generation
      ≡ is_some (map.get (told i).cells n)
  live_told i n = rw (← tells i, slice_get-map, get_cells (list_map slot_told i.slots.items) n, told_at i.slots.items n.slot)
      (live_in (slice_get i.slots.items n.slot) n.generation)

  -- under another number it determines the same state except for the number
  pub told_as : (i : Image T) (number : ℕ)
      → told (record i { number = number }) ≡ record (told i) { number = number }
  unfolding told
  told_as i number = refl

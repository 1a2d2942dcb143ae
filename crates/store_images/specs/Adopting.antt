-- Ids of an image, in a store that is made of it under another number.
use Rattle.std.specs.Prelude.{ℕ, ◌&&◌, Bool, false, if◌then◌else◌, is_some, nat_eq, Option, None, Some, slice_get}
use Rattle.std.specs.FinMap as map
use Rattle.generational_core.specs.Boxes.{id_of, name_in}
use Rattle.generational_core.specs.declared.boxes.GenerationalBoxId.{GenerationalBoxId}
use Rattle.store_images.specs.Images.{told}
use Rattle.store_images.specs.declared.image.CellImage.{CellImage}
use Rattle.store_images.specs.declared.image.CellImage.TheVariants as saved
use Rattle.store_images.specs.declared.image.Image.{Image}
use Rattle.store_images.specs.declared.image.SlotImage.{SlotImage}
use Rattle.store_images.specs.declared.loaded.Loaded.{Loaded}

-- an id becomes one of another store, or nothing
abbrev pub adopted_if : Bool → ℕ → GenerationalBoxId → Option GenerationalBoxId
adopted_if live number id = if live then Some (id_of number (name_in id)) else None

module _ {T : Type 0} where
  -- the id of a cell that is live in an image, in a store that is made of it under another number
  abbrev pub id_adopted : Image T → ℕ → GenerationalBoxId → Option GenerationalBoxId
  id_adopted i number id =
      let live = nat_eq id.store i.number && is_some (map.get (told i).cells (name_in id)) in
      adopted_if live number id

  -- the generation of a slot's cell, if that is live
  abbrev pub generation_if : CellImage T → ℕ → Option ℕ
  generation_if saved.Empty g = None
  generation_if c g = Some g

  abbrev pub live_generation : SlotImage T → Option ℕ
  live_generation s = generation_if s.cell s.generation

-- a slot's cell was live under this generation
abbrev pub has_generation : Option (Option ℕ) → ℕ → Bool
has_generation (Some (Some live)) g = nat_eq live g
has_generation o g = false

-- what a load makes of an id
abbrev pub adopted : Loaded → GenerationalBoxId → Option GenerationalBoxId
adopted l id =
    let live = has_generation (slice_get l.generations.items id.slot) id.generation in
    adopted_if (nat_eq id.store l.saved && live) l.number id

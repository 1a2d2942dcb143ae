-- Images of stores as forms, and what is read of one.
use Rattle.std.specs.Prelude.{◌≡◌, ℕ, List, Option, Some, None, IfSome, IsSomeAnd, length}
use Rattle.std.specs.Borrow.{Bor}
use Rattle.std.specs.Int.{w64}
use Rattle.std.specs.List.{AllByRecursion}
use Rattle.generational_errors.specs.declared.error.Location.{Location}
use Rattle.store_images.specs.declared.image.CellImage.{CellImage}
use Rattle.store_images.specs.declared.image.CellImage.TheVariants as saved
use Rattle.store_images.specs.declared.image.Image.{Image}
use Rattle.store_images.specs.declared.image.SlotImage.{SlotImage}
use Rattle.saved_bytes.specs.Forms.{Form, items_form, list_form, variant_form}
use Rattle.saved_bytes.specs.FileNames.{IsFound, IsFileKnown, IsRelocated, location_form, saved_location_form}
use Rattle.saved_bytes.specs.declared.images.SavedCell.{SavedCell}
use Rattle.saved_bytes.specs.declared.images.SavedCell.TheVariants as file
use Rattle.saved_bytes.specs.Reading.{ArePairwise}

-- an image's numbers, and how many slots it has
abbrev pub saved_front_form : (ℕ × (ℕ × (ℕ × ℕ))) × ℕ → Form
saved_front_form front =
    Form.Both
    (Form.Both (Form.Number w64 front.0.0) (Form.Both (Form.Number w64 front.0.1.0) (Form.Both (Form.Number w64 front.0.1.1.0) (Form.Number w64 front.0.1.1.1))))
    (Form.Number w64 front.1)

module _ {T : Type 0} where
  abbrev pub location_in : CellImage T → Option Location
  location_in saved.Empty = None
  location_in (saved.Value v l) = Some l
  location_in (saved.Shared v l) = Some l
  location_in (saved.Reference s g l) = Some l

  abbrev pub cell_tag : CellImage T → ℕ
  cell_tag saved.Empty = 0
  cell_tag (saved.Value v l) = 1
  cell_tag (saved.Shared v l) = 2
  cell_tag (saved.Reference s g l) = 3

  abbrev pub numbers_form : Image T → Form
  numbers_form i =
      Form.Both (Form.Number w64 i.number)
      (Form.Both (Form.Number w64 i.start) (Form.Both (Form.Number w64 i.next) (Form.Number w64 i.peak)))

  -- the numbers, and how many slots there are
  abbrev pub front_form : Image T → Form
  front_form i = Form.Both (numbers_form i) (Form.Number w64 (length i.slots.items))

  -- ---- with a table of the files' names

  module _ (names : List (List ℕ)) where
    -- the location's file is in it
    abbrev pub IsCellNamed : CellImage T → Type 0
    IsCellNamed c = IfSome (location_in c) (λ l. IsFileKnown names l.file.now)

    abbrev pub IsSlotNamed : SlotImage T → Type 0
    IsSlotNamed s = IsCellNamed s.cell

    abbrev pub AreNamed : ℕ → List (SlotImage T) → Type 0
    AreNamed count slots = (length slots ≡ count) × AllByRecursion IsSlotNamed slots

    abbrev pub IsImageNamed : Image T → Type 0
    IsImageNamed i = AllByRecursion IsSlotNamed i.slots.items

  module _ (names : List (List ℕ)) (form : T → Form) where
    abbrev pub cell_fields : CellImage T → Form
    cell_fields saved.Empty = Form.Nothing
    cell_fields (saved.Value v l) = Form.Both (location_form names l) (form v)
    cell_fields (saved.Shared v l) = Form.Both (location_form names l) (form v)
    cell_fields (saved.Reference s g l) =
        Form.Both (Form.Number w64 s) (Form.Both (Form.Number w64 g) (location_form names l))

    abbrev pub cell_form : CellImage T → Form
    cell_form c = variant_form (cell_tag c) (cell_fields c)

    -- the generation and the cell
    abbrev pub slot_form : SlotImage T → Form
    slot_form s = Form.Both (Form.Number w64 s.generation) (cell_form s.cell)

    -- the names, and slots
    abbrev pub named_slots_form : List (SlotImage T) → Form
    named_slots_form slots = Form.Both (list_form Form.Text names) (items_form slot_form slots)

    -- the names, the store's numbers, and the slots
    abbrev pub image_form : Image T → Form
    image_form i = Form.Both (list_form Form.Text names) (Form.Both (numbers_form i) (list_form slot_form i.slots.items))

  -- ---- a cell in the form of a file

  abbrev pub saved_cell_tag : SavedCell T → ℕ
  saved_cell_tag file.Empty = 0
  saved_cell_tag (file.Value v) = 1
  saved_cell_tag (file.Shared v) = 2
  saved_cell_tag (file.Reference r) = 3

  module _ (form : T → Form) where
    abbrev pub saved_cell_fields : SavedCell T → Form
    saved_cell_fields file.Empty = Form.Nothing
    saved_cell_fields (file.Value v) = Form.Both (saved_location_form v.0) (form v.1)
    saved_cell_fields (file.Shared v) = Form.Both (saved_location_form v.0) (form v.1)
    saved_cell_fields (file.Reference r) =
        Form.Both (Form.Number w64 r.0) (Form.Both (Form.Number w64 r.1.0) (saved_location_form r.1.1))

    abbrev pub saved_cell_form : SavedCell T → Form
    saved_cell_form c = variant_form (saved_cell_tag c) (saved_cell_fields c)

  -- ---- what is read: the same values, at the same locations if these files are theirs

  module _ (files : List (Bor (List ℕ))) (here : Location) (form : T → Form) where
    abbrev pub IsCellAgain : CellImage T → CellImage T → Type 0
    IsCellAgain saved.Empty saved.Empty = Unit {0}
    IsCellAgain (saved.Value v l) (saved.Value w m) = (form w ≡ form v) × IsRelocated files here l m
    IsCellAgain (saved.Shared v l) (saved.Shared w m) = (form w ≡ form v) × IsRelocated files here l m
    IsCellAgain (saved.Reference s g l) (saved.Reference t h m) = (t ≡ s) × (h ≡ g) × IsRelocated files here l m
    IsCellAgain old new = ⊥

    abbrev pub IsSlotAgain : SlotImage T → SlotImage T → Type 0
    IsSlotAgain old new = (new.generation ≡ old.generation) × IsCellAgain old.cell new.cell

    pub record IsImageAgain (old new : Image T) : Type 0 where
      pub number : new.number ≡ old.number
      pub start : new.start ≡ old.start
      pub next : new.next ≡ old.next
      pub peak : new.peak ≡ old.peak
      pub slots : ArePairwise IsSlotAgain old.slots.items new.slots.items

  -- A cell in a file's form for another one is that one again, once it has a location.
  abbrev pub IsCellRestored : List (Option (Bor (List ℕ))) → Location → SavedCell T → Option (CellImage T) → Type 0
  IsCellRestored found_files here cell result = (form : T → Form) (files : List (Bor (List ℕ))) (names : List (List ℕ)) (c : CellImage T)
      → ArePairwise (IsFound files) names found_files → IsCellNamed names c → saved_cell_form form cell ≡ cell_form names form c
      → IsSomeAnd result (IsCellAgain files here form c)

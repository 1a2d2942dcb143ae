-- What a store and a list of parts tell of places, and which of them make a document.
use Rattle.std.specs.Prelude.{◌≡◌, ℕ, List, Option, None, Some, is_some, slice_get, slice_index_or, true}
use Rattle.generational_core.specs.Seeing.{value_in}
use Rattle.generational_core.specs.State.{State}
use Rattle.generational_core.specs.declared.boxes.GenerationalBoxId.{GenerationalBoxId}
use Rattle.generational_errors.specs.declared.error.Location.{Location}
use Rattle.handles.specs.Handles.{pointer_in}
use Rattle.live_cells.specs.Cells.{IsCellFault}
use Rattle.document_tree.specs.Documents.{Place, Shown}
use Rattle.document_tree.specs.Keeping.{Leads}
use Rattle.document_tree.specs.declared.part.Part.{Part}
use Rattle.document_tree.specs.declared.parts.DocumentPart.{DocumentPart}
use Rattle.document_tree.specs.declared.parts.PartsFault.{PartsFault}
use Rattle.document_tree.specs.declared.parts.PartsFault.TheVariants.{Cell, NoPart, Unused}

module _ {T : Type 0} where
  -- the part with an index, if there is one
  abbrev pub part_row : List (Option (DocumentPart T)) → ℕ → Option (DocumentPart T)
  part_row rows index = slice_index_or rows index None

  abbrev pub row_told : List (Option (DocumentPart T)) → Option ℕ → Option (DocumentPart T)
  row_told rows None = None
  row_told rows (Some index) = part_row rows index

  -- its content and children
  abbrev pub shown_row : Option (DocumentPart T) → Option (Shown T)
  shown_row None = None
  shown_row (Some r) = Some (record { content = r.content; children = r.children.items })

  -- what a place has, by a store and parts
  abbrev pub shown_told : State ℕ → List (Option (DocumentPart T)) → Place → Option (Shown T)
  shown_told S rows p = shown_row (row_told rows (value_in S (pointer_in p)))

  -- a row is of a part, or of none
  abbrev pub IsLaid : List Location → Option (Part T) → Option (DocumentPart T) → Type 0
  IsLaid sites None row = row ≡ None
  IsLaid sites (Some part) row = (r : DocumentPart T) × (row ≡ Some r) × (r.content ≡ part.content)
      × (r.children ≡ part.children) × (slice_get sites part.site ≡ Some r.created_at)

  -- each place refers to a part, and each part has a place
  pub record AreParts (S : State ℕ) (rows : List (Option (DocumentPart T))) : Type 0 where
    pub named : (id : GenerationalBoxId) (index : ℕ) → Leads S index id → is_some (part_row rows index) ≡ true
    pub used : (index : ℕ) (r : DocumentPart T) → part_row rows index ≡ Some r
        → (id : GenerationalBoxId) × Leads S index id

  -- the fault is true of a store and parts
  abbrev pub IsPartsFault : State ℕ → List (Option (DocumentPart T)) → PartsFault → Type 0
  IsPartsFault S rows (Cell fault) = IsCellFault S fault
  IsPartsFault S rows (NoPart slot) = (id : GenerationalBoxId) × (index : ℕ) × (id.slot ≡ slot)
      × Leads S index id × (part_row rows index ≡ None)
  IsPartsFault S rows (Unused index) = (r : DocumentPart T) × (part_row rows index ≡ Some r)
      × ((id : GenerationalBoxId) → Leads S index id → ⊥)

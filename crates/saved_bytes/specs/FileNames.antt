-- The files of locations: a table of their names, and which of them a reader knows.
use Rattle.std.specs.Prelude.{◌≡◌, ◌<◌, ℕ, suc, Bool, true, false, cond, nat_eq, List, [], ◌∷◌, length, map}
use Rattle.std.specs.Prelude.{Option, Some, None}
use Rattle.std.specs.Borrow.{Bor}
use Rattle.std.specs.Cmp.Lexicographic.{pointwise}
use Rattle.std.specs.Int.{w32}
use Rattle.std.specs.List.{list_any}
use Rattle.generational_errors.specs.declared.error.Location.{Location}
use Rattle.saved_bytes.specs.Forms.{Form}

abbrev pub texts : List (Bor (List ℕ)) → List (List ℕ)
texts files = map (λ file. file.now) files

-- the index of the first name that is this text, or their number
abbrev pub file_index : List (List ℕ) → List ℕ → ℕ
file_index [] text = 0
file_index (name ∷ names) text = cond (pointwise nat_eq name text) 0 (suc (file_index names text))

-- the text is one of the names
abbrev pub IsFileKnown : List (List ℕ) → List ℕ → Type 0
IsFileKnown names text = file_index names text < length names

-- the index of the location's file, the line and the column
abbrev pub location_form : List (List ℕ) → Location → Form
location_form names l =
    Form.Both (Form.Number w32 (file_index names l.file.now)) (Form.Both (Form.Number w32 l.line) (Form.Number w32 l.column))

abbrev pub saved_location_form : ℕ × (ℕ × ℕ) → Form
saved_location_form saved =
    Form.Both (Form.Number w32 saved.0) (Form.Both (Form.Number w32 saved.1.0) (Form.Number w32 saved.1.1))

-- one of the files has this name
abbrev pub is_listed : List (Bor (List ℕ)) → List ℕ → Bool
is_listed files name = list_any (λ file. pointwise nat_eq file.now name) files

-- any name
abbrev pub IsAnyName : List ℕ → Type 0
IsAnyName name = Unit {0}

abbrev pub AreAnyNames : List (List ℕ) → Type 0
AreAnyNames names = Unit {0}

-- what a name was found to be among the files
abbrev pub IsFound : List (Bor (List ℕ)) → List ℕ → Option (Bor (List ℕ)) → Type 0
IsFound files name None = is_listed files name ≡ false
IsFound files name (Some file) = (is_listed files name ≡ true) × (file.now ≡ name)

-- the same location if its file is listed, else another one
abbrev pub IsRelocatedIf : Bool → Location → Location → Location → Type 0
IsRelocatedIf true here old new = (new.file.now ≡ old.file.now) × (new.line ≡ old.line) × (new.column ≡ old.column)
IsRelocatedIf false here old new = new ≡ here

abbrev pub IsRelocated : List (Bor (List ℕ)) → Location → Location → Location → Type 0
IsRelocated files here old new = IsRelocatedIf (is_listed files old.file.now) here old new

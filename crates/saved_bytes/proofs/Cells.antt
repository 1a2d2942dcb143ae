-- Cells in the form of a file.
use Rattle.std.proofs.Common.{◌≡◌, ℕ, List, refl, ap, arith, Ok, Err}
use Rattle.std.specs.Int.{w8, w64}
use Rattle.store_images.specs.declared.image.CellImage.{CellImage}
use Rattle.store_images.specs.declared.image.CellImage.TheVariants as saved
use Rattle.saved_bytes.specs.Forms.{Form, IsForm, spell}
use Rattle.saved_bytes.specs.Forms.Form.{Number, Both}
use Rattle.saved_bytes.specs.Images.{cell_form, saved_cell_fields, saved_cell_form, saved_cell_tag}
use Rattle.saved_bytes.specs.FileNames.{file_index, saved_location_form}
use Rattle.saved_bytes.specs.Reading.{ReadsAgain}
use Rattle.saved_bytes.specs.declared.decode.DecodeError.{DecodeError}
use Rattle.saved_bytes.specs.declared.decode.DecodeError.TheVariants.{OutOfMemory}
use Rattle.saved_bytes.specs.declared.images.SavedCell.{SavedCell}
use Rattle.saved_bytes.specs.declared.images.SavedCell.TheVariants as file

apart : (m n : ℕ) → Number w8 m ≡ Number w8 n → m ≡ n
apart m n e = cc

module _ {T : Type 0} where
  -- the cell in the form of a file with these names
  abbrev pub saved_of : List (List ℕ) → CellImage T → SavedCell T
  saved_of names saved.Empty = file.Empty
  saved_of names (saved.Value v l) = file.Value ((file_index names l.file.now, (l.line, l.column)), v)
  saved_of names (saved.Shared v l) = file.Shared ((file_index names l.file.now, (l.line, l.column)), v)
  saved_of names (saved.Reference s g l) = file.Reference (s, (g, (file_index names l.file.now, (l.line, l.column))))

  pub saved_same : (names : List (List ℕ)) (form : T → Form) (c : CellImage T) → saved_cell_form form (saved_of names c) ≡ cell_form names form c
  saved_same names form saved.Empty = refl
  saved_same names form (saved.Value v l) = refl
  saved_same names form (saved.Shared v l) = refl
  saved_same names form (saved.Reference s g l) = refl

  -- ---- the variant of a byte

  module _ (form : T → Form) where
    abbrev value_form : (ℕ × (ℕ × ℕ)) × T → Form
    value_form v = Both (saved_location_form v.0) (form v.1)

    abbrev reference_form : ℕ × (ℕ × (ℕ × (ℕ × ℕ))) → Form
    reference_form r = Both (Number w64 r.0) (Both (Number w64 r.1.0) (saved_location_form r.1.1))

    module _ (rest mid new : List ℕ) where
      pub value_refused : (x : SavedCell T) (e : DecodeError) → Number w8 1 ≡ Number w8 (saved_cell_tag x) → IsForm (saved_cell_fields form x)
          → mid ≡ spell (saved_cell_fields form x) rest → ReadsAgain value_form mid (Err e) new → e ≡ OutOfMemory
      value_refused file.Empty e tag fits is again = absurd (let n = apart _ _ tag in omega arith)
      value_refused (file.Value v) e tag fits is again = again v rest fits is
      value_refused (file.Shared v) e tag fits is again = absurd (let n = apart _ _ tag in omega arith)
      value_refused (file.Reference r) e tag fits is again = absurd (let n = apart _ _ tag in omega arith)

      pub shared_refused : (x : SavedCell T) (e : DecodeError) → Number w8 2 ≡ Number w8 (saved_cell_tag x) → IsForm (saved_cell_fields form x)
          → mid ≡ spell (saved_cell_fields form x) rest → ReadsAgain value_form mid (Err e) new → e ≡ OutOfMemory
      shared_refused file.Empty e tag fits is again = absurd (let n = apart _ _ tag in omega arith)
      shared_refused (file.Value v) e tag fits is again = absurd (let n = apart _ _ tag in omega arith)
      shared_refused (file.Shared v) e tag fits is again = again v rest fits is
      shared_refused (file.Reference r) e tag fits is again = absurd (let n = apart _ _ tag in omega arith)

      pub reference_refused : (x : SavedCell T) (e : DecodeError) → Number w8 3 ≡ Number w8 (saved_cell_tag x) → IsForm (saved_cell_fields form x)
          → mid ≡ spell (saved_cell_fields form x) rest → ReadsAgain reference_form mid (Err e) new → e ≡ OutOfMemory
      reference_refused file.Empty e tag fits is again = absurd (let n = apart _ _ tag in omega arith)
      reference_refused (file.Value v) e tag fits is again = absurd (let n = apart _ _ tag in omega arith)
      reference_refused (file.Shared v) e tag fits is again = absurd (let n = apart _ _ tag in omega arith)
      reference_refused (file.Reference r) e tag fits is again = again r rest fits is

      pub value_read : (x : SavedCell T) (y : (ℕ × (ℕ × ℕ)) × T) → Number w8 1 ≡ Number w8 (saved_cell_tag x) → IsForm (saved_cell_fields form x)
          → mid ≡ spell (saved_cell_fields form x) rest → ReadsAgain value_form mid (Ok y) new
          → (saved_cell_form form (file.Value y) ≡ saved_cell_form form x) × (new ≡ rest)
      value_read file.Empty y tag fits is again = absurd (let n = apart _ _ tag in omega arith)
      value_read (file.Value v) y tag fits is again = let r = again v rest fits is in (ap (Both (Number w8 1)) r.0, r.1)
      value_read (file.Shared v) y tag fits is again = absurd (let n = apart _ _ tag in omega arith)
      value_read (file.Reference r) y tag fits is again = absurd (let n = apart _ _ tag in omega arith)

      pub shared_read : (x : SavedCell T) (y : (ℕ × (ℕ × ℕ)) × T) → Number w8 2 ≡ Number w8 (saved_cell_tag x) → IsForm (saved_cell_fields form x)
          → mid ≡ spell (saved_cell_fields form x) rest → ReadsAgain value_form mid (Ok y) new
          → (saved_cell_form form (file.Shared y) ≡ saved_cell_form form x) × (new ≡ rest)
      shared_read file.Empty y tag fits is again = absurd (let n = apart _ _ tag in omega arith)
      shared_read (file.Value v) y tag fits is again = absurd (let n = apart _ _ tag in omega arith)
      shared_read (file.Shared v) y tag fits is again = let r = again v rest fits is in (ap (Both (Number w8 2)) r.0, r.1)
      shared_read (file.Reference r) y tag fits is again = absurd (let n = apart _ _ tag in omega arith)

-- Forms: what values come down to, and the bytes that spell them.
use Rattle.std.specs.Prelude.{◌≡◌, ◌<◌, ◌^◌, ◌*◌, ℕ, List, [], ◌∷◌, ◌++◌, length, Bool, true, false}
use Rattle.std.specs.Prelude.{Option, Some, None}
use Rattle.std.specs.Int.{Width, w8, w64, byte_len, to_le_bytes}
use Rattle.std.specs.Str.{IsUtf8}
use Rattle.saved_bytes.specs.declared.decode.Decoder.{Decoder}
use Rattle.saved_bytes.specs.declared.encode.Encoder.{Encoder}

-- A value's form: a tree of numbers and texts.
pub data Form : Type 0 where
  Nothing : Form
  Number : Width → ℕ → Form
  Text : List ℕ → Form
  Both : Form → Form → Form

-- the bytes that spell a form, and then others
abbrev pub spell : Form → List ℕ → List ℕ
spell Form.Nothing rest = rest
spell (Form.Number w n) rest = to_le_bytes w n ++ rest
spell (Form.Text bytes) rest = to_le_bytes w64 (length bytes) ++ (bytes ++ rest)
spell (Form.Both f g) rest = spell f (spell g rest)

-- each number fits its width, and each text is one
abbrev pub IsForm : Form → Type 0
IsForm Form.Nothing = Unit {0}
IsForm (Form.Number w n) = n < 2 ^ (8 * byte_len w)
IsForm (Form.Text bytes) = (length bytes < 2 ^ 64) × IsUtf8 bytes
IsForm (Form.Both f g) = IsForm f × IsForm g

-- ---- forms of values

-- a byte for the variant, and the variant's fields
abbrev pub variant_form : ℕ → Form → Form
variant_form tag fields = Form.Both (Form.Number w8 tag) fields

abbrev pub bool_tag : Bool → ℕ
bool_tag false = 0
bool_tag true = 1

module _ {A : Type 0} (form : A → Form) where
  abbrev pub option_tag : Option A → ℕ
  option_tag None = 0
  option_tag (Some x) = 1

  abbrev pub option_fields : Option A → Form
  option_fields None = Form.Nothing
  option_fields (Some x) = form x

  -- items one after the other
  abbrev pub items_form : List A → Form
  items_form [] = Form.Nothing
  items_form (x ∷ xs) = Form.Both (form x) (items_form xs)

  -- their number, and the items
  abbrev pub list_form : List A → Form
  list_form xs = Form.Both (Form.Number w64 (length xs)) (items_form xs)

-- ---- bytes that are written and read

-- what was written so far
abbrev pub written : Encoder → List ℕ
written out = out.bytes.items

-- what is left to read
abbrev pub unread : Decoder → List ℕ
unread input = input.rest.now

-- the new bytes are the old ones and those that spell a form
abbrev pub Appends : Form → List ℕ → List ℕ → Type 0
Appends f old new = IsForm f × ((rest : List ℕ) → new ++ rest ≡ old ++ spell f rest)

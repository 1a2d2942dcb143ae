-- Files: pieces, each of which is a header and the bytes that it describes.
use Rattle.std.specs.Prelude.{◌≡◌, ◌+◌, ◌*◌, ◌/◌, ◌%◌, ◌^◌, ◌⊎◌, ℕ, zero, suc, List, [], ◌∷◌, ◌++◌, length, drop, take, bit_xor, if◌then◌else◌, ◌==◌}
use Rattle.std.specs.Int.{w32, w64, from_le_bytes, rotate_left}
use Rattle.std.specs.List.{AllByRecursion}
use Rattle.store_images.specs.declared.image.Image.{Image}
use Rattle.store_images.specs.declared.image.SlotImage.{SlotImage}
use Rattle.saved_bytes.specs.Forms.{Form, IsForm, spell}
use Rattle.saved_bytes.specs.Images.{front_form, image_form, named_slots_form, IsImageNamed, IsSlotNamed}
use Rattle.saved_bytes.specs.declared.decode.DecodeError.TheVariants.{OutOfMemory}
use Rattle.saved_bytes.specs.declared.file.ReadError.{ReadError}
use Rattle.saved_bytes.specs.declared.file.ReadError.TheVariants as read
use Rattle.saved_bytes.specs.declared.file.TheConstants.{PIECE, WHOLE}
use Rattle.saved_bytes.specs.declared.checksum.TheConstants.{FACTOR, START}
use Rattle.saved_bytes.specs.declared.pieces.Header.{Header}
use Rattle.saved_bytes.specs.declared.pieces.TheConstants.{MAGIC, VERSION}

-- the k-th eight bytes, as a number; those that aren't there count as zeros
abbrev pub word : List ℕ → ℕ → ℕ
word bytes k = from_le_bytes w64 (drop (8 * k) bytes)

-- A step of the checksum. Each number and each earlier sum is determined by the result and the other
-- one.
abbrev pub mixed : ℕ → ℕ → ℕ
mixed sum n = rotate_left w64 ((bit_xor sum n * FACTOR) % 2 ^ 64) 31

-- The numbers are dealt to some sums in turn. The i-th one, counted from 0, after k of its numbers.
abbrev pub sum_upto : ℕ → List ℕ → ℕ → ℕ → ℕ
sum_upto sums bytes i zero = START
sum_upto sums bytes i (suc k) = mixed (sum_upto sums bytes i k) (word bytes (sums * k + i))

abbrev pub one_sum : List ℕ → ℕ
one_sum bytes = sum_upto 1 bytes 0 (length bytes / 8 + 1)

-- the i-th of four sums
abbrev pub lane : List ℕ → ℕ → ℕ
lane bytes i = sum_upto 4 bytes i (length bytes / 32 + 1)

abbrev pub four_sums : List ℕ → ℕ
four_sums bytes = mixed (mixed (mixed (lane bytes 0) (lane bytes 1)) (lane bytes 2)) (lane bytes 3)

-- in a piece of this version
unfoldable pub checksum : ℕ → List ℕ → ℕ
checksum version bytes = if version == VERSION then four_sums bytes else one_sum bytes

-- ---- pieces

-- what kind of file it is, its version, and the length and the sum of the bytes that follow
abbrev pub header_form : Header → Form
header_form h =
    Form.Both (Form.Number w64 MAGIC)
    (Form.Both (Form.Number w32 h.version) (Form.Both (Form.Number w64 h.len) (Form.Number w64 h.sum)))

abbrev pub header : ℕ → List ℕ → Form
header version bytes = header_form (record { version = version; len = length bytes; sum = checksum version bytes })

pub record IsHeaderOf (h : Header) (v : ℕ) (bytes : List ℕ) : Type 0 where
  pub version : h.version ≡ v
  pub len : h.len ≡ length bytes
  pub sum : h.sum ≡ checksum h.version bytes

abbrev pub piece_of : ℕ → List ℕ → List ℕ
piece_of version bytes = spell (header version bytes) bytes

abbrev pub pieces_of : List (List ℕ) → List ℕ
pieces_of [] = []
pieces_of (bytes ∷ more) = piece_of VERSION bytes ++ pieces_of more

-- The file is one piece of the earlier version, or pieces.
abbrev pub IsWhole : List ℕ → Type 0
IsWhole file = ((bytes : List ℕ) × (file ≡ piece_of WHOLE bytes)) ⊎ ((pieces : List (List ℕ)) × (file ≡ pieces_of pieces))

-- ---- files of images

module _ {T : Type 0} (form : T → Form) where
  -- a piece of these slots, with some table of the files' names
  pub record IsPieceOf (slots : List (SlotImage T)) (piece : List ℕ) : Type 0 where
    pub names : List (List ℕ)
    pub named : AllByRecursion (IsSlotNamed names) slots
    pub fits : IsForm (named_slots_form names form slots)
    pub header_fits : IsForm (header VERSION (spell (named_slots_form names form slots) []))
    pub bytes : piece ≡ piece_of VERSION (spell (named_slots_form names form slots) [])

  -- n pieces, each of the next PIECE slots
  abbrev pub ArePieces : ℕ → List (SlotImage T) → List ℕ → Type 0
  ArePieces zero slots file = (slots ≡ []) × (file ≡ [])
  ArePieces (suc n) slots file =
      (first more : List ℕ) × IsPieceOf (take PIECE slots) first × ArePieces n (drop PIECE slots) more × (file ≡ first ++ more)

  -- The bytes are a file of the image: a piece with its numbers, and those of its slots.
  pub record IsFileOf (i : Image T) (file : List ℕ) : Type 0 where
    pub pieces : List ℕ
    pub fits : IsForm (front_form i)
    pub header_fits : IsForm (header VERSION (spell (front_form i) []))
    pub are : ArePieces (length i.slots.items / PIECE + 1) i.slots.items pieces
    pub bytes : file ≡ piece_of VERSION (spell (front_form i) []) ++ pieces

  -- The bytes are a file of the image in the earlier version, with some table of the files' names.
  pub record IsWholeFileOf (i : Image T) (file : List ℕ) : Type 0 where
    pub names : List (List ℕ)
    pub named : IsImageNamed names i
    pub fits : IsForm (image_form names form i)
    pub header_fits : IsForm (header WHOLE (spell (image_form names form i) []))
    pub bytes : file ≡ piece_of WHOLE (spell (image_form names form i) [])

-- the bytes aren't said to be damaged
abbrev pub IsNoDamage : ReadError → Type 0
IsNoDamage (read.Io e) = Unit {0}
IsNoDamage (read.Decode e) = e ≡ OutOfMemory

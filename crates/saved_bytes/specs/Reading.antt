-- What reading leaves: a value that was spelled is read again, and nothing else is.
use Rattle.std.specs.Prelude.{◌≡◌, List, [], ◌∷◌, ℕ, Result, Ok, Err, IfOk, length}
use Rattle.std.specs.List.{AllByRecursion}
use Rattle.saved_bytes.specs.Forms.{Form, IsForm, spell, items_form}
use Rattle.saved_bytes.specs.Forms.Form.{Text}
use Rattle.saved_bytes.specs.declared.decode.DecodeError.{DecodeError}
use Rattle.saved_bytes.specs.declared.decode.DecodeError.TheVariants.{OutOfMemory}

module _ {X : Type 0} (form : X → Form) where
  -- a value with this form was read, and these bytes are left; or memory ran out
  abbrev pub IsRead : Form → List ℕ → Result X DecodeError → List ℕ → Type 0
  IsRead f rest (Ok y) new = (form y ≡ f) × (new ≡ rest)
  IsRead f rest (Err e) new = e ≡ OutOfMemory

  -- if the bytes spell a value, and then others, it is read
  abbrev pub ReadsAgain : List ℕ → Result X DecodeError → List ℕ → Type 0
  ReadsAgain old result new = (x : X) (rest : List ℕ) → IsForm (form x) → old ≡ spell (form x) rest
      → IsRead (form x) rest result new

  -- the bytes spell what is read
  abbrev pub ReadsOnly : List ℕ → Result X DecodeError → List ℕ → Type 0
  ReadsOnly old result new = IfOk result (λ y. IsForm (form y) × (old ≡ spell (form y) new))

-- the same, of a text
abbrev pub TextReadsAgain : {Y : Type 0} → (Y → List ℕ) → List ℕ → Result Y DecodeError → List ℕ → Type 0
TextReadsAgain text old result new = (bytes rest : List ℕ) → IsForm (Text bytes)
    → old ≡ spell (Text bytes) rest → IsRead (λ y. Text (text y)) (Text bytes) rest result new

module _ {X V : Type 0} (form : X → Form) (items : V → List X) where
  -- the same, of a list whose length is known
  abbrev pub ItemsReadAgain : ℕ → List ℕ → Result V DecodeError → List ℕ → Type 0
  ItemsReadAgain count old result new = (xs : List X) (rest : List ℕ) → length xs ≡ count
      → IsForm (items_form form xs) → old ≡ spell (items_form form xs) rest
      → IsRead (λ v. items_form form (items v)) (items_form form xs) rest result new × IfOk result (λ v. length (items v) ≡ count)

  abbrev pub ItemsReadOnly : ℕ → List ℕ → Result V DecodeError → List ℕ → Type 0
  ItemsReadOnly count old result new =
      ReadsOnly (λ v. items_form form (items v)) old result new × IfOk result (λ v. length (items v) ≡ count)

-- two lists are as long, and each pair is related
abbrev pub ArePairwise : {X Y : Type 0} → (X → Y → Type 0) → List X → List Y → Type 0
ArePairwise R [] [] = Unit {0}
ArePairwise R [] (y ∷ ys) = ⊥
ArePairwise R (x ∷ xs) [] = ⊥
ArePairwise R (x ∷ xs) (y ∷ ys) = R x y × ArePairwise R xs ys

-- What is read corresponds to what was written, and may be of another type: X is what was written, and
-- Here says for which of its values this holds.
module _ {X Y : Type 0} (Here : X → Type 0) (form : X → Form) (Same : X → Y → Type 0) where
  abbrev pub IsReadAs : X → List ℕ → Result Y DecodeError → List ℕ → Type 0
  IsReadAs x rest (Ok y) new = Same x y × (new ≡ rest)
  IsReadAs x rest (Err e) new = e ≡ OutOfMemory

  abbrev pub ReadsAs : List ℕ → Result Y DecodeError → List ℕ → Type 0
  ReadsAs old result new = (x : X) (rest : List ℕ) → Here x → IsForm (form x) → old ≡ spell (form x) rest
      → IsReadAs x rest result new

module _ {X Y V : Type 0} (Here : X → Type 0) (form : X → Form) (Same : X → Y → Type 0) (items : V → List Y) where
  abbrev pub AreReadAs : List X → List ℕ → Result V DecodeError → List ℕ → Type 0
  AreReadAs xs rest (Ok v) new = ArePairwise Same xs (items v) × (new ≡ rest)
  AreReadAs xs rest (Err e) new = e ≡ OutOfMemory

  abbrev pub ItemsReadAs : ℕ → List ℕ → Result V DecodeError → List ℕ → Type 0
  ItemsReadAs count old result new = (xs : List X) (rest : List ℕ) → length xs ≡ count → AllByRecursion Here xs
      → IsForm (items_form form xs) → old ≡ spell (items_form form xs) rest → AreReadAs xs rest result new

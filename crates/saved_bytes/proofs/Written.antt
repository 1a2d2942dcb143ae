-- Pieces of a file, one after the other.
use Rattle.std.proofs.Common.{◌≡◌, ℕ, zero, suc, ◌+◌, ◌-◌, ◌<◌, ◌≤◌, List, [], ◌∷◌, ◌++◌, length, take, drop, refl, ap, sym, subst, ◌∙◌, arith, Option, Some, None, append_assoc}
use Rattle.std.specs.Prelude.{min}
use Rattle.std.specs.Int.{w64, to_le_bytes}
use Rattle.std.specs.Io.KnownBytes.{Appends as Adds, Consumes, IsAtEnd}
use Rattle.std.proofs.lemmas.List.{append-nil, length-drop}
use Rattle.std.proofs.Math.Nat.{min-zero, suc-min-suc, zero-min}
use Rattle.std.specs.Prelude.{◌*◌, ◌/◌}
use Rattle.store_images.specs.declared.image.SlotImage.{SlotImage}
use Rattle.saved_bytes.specs.Files.{header_form, pieces_of, piece_of, ArePieces, IsPieceOf}
use Rattle.saved_bytes.specs.Forms.{Form, spell}
use Rattle.saved_bytes.specs.declared.file.TheConstants.{PIECE}
use Rattle.saved_bytes.specs.Reading.{ArePairwise}
use Rattle.saved_bytes.specs.declared.pieces.Header.{Header}
use Rattle.saved_bytes.specs.declared.pieces.TheConstants.{VERSION}
use Rattle.saved_bytes.proofs.Files.{adds_both}

-- ---- bytes that are read

pub consumes_both : (x y z : Option (List ℕ)) (a b : List ℕ) → Consumes x y a → Consumes y z b → Consumes x z (a ++ b)
consumes_both None y z a b p q = tt
consumes_both (Some xs) None z a b p q = absurd p
consumes_both (Some xs) (Some ys) None a b p q = absurd q
consumes_both (Some xs) (Some ys) (Some zs) a b p q = p ∙ (ap (λ (l : List ℕ). a ++ l) q ∙ sym (append_assoc a b zs))

pub kept_bytes : (x y z : Option (List ℕ)) (a : List ℕ) → Consumes x y a → Consumes y z [] → Consumes x z a
kept_bytes x y z a p q = subst (λ (l : List ℕ). Consumes x z l) (append-nil a) (consumes_both x y z a [] p q)

-- The first of known bytes were read, and fewer only if nothing follows.
pub taken : (xs rest : List ℕ) (new : Option (List ℕ)) (bytes : List ℕ) → Consumes (Some (xs ++ rest)) new bytes
    → length bytes ≤ length xs → (length bytes < length xs → IsAtEnd new) → (bytes ≡ xs) × (new ≡ Some rest)
taken xs rest None bytes p most ended = absurd p
taken [] rest (Some ys) [] p most ended = (refl, ap (λ (l : List ℕ). Some l) (sym p))
taken [] rest (Some ys) (b ∷ bytes) p most ended = absurd (omega arith)
taken (x ∷ xs) rest (Some ys) [] p most ended =
    let none : ys ≡ [] = ended (omega arith) in
    let both : x ∷ (xs ++ rest) ≡ [] = p ∙ none in
    absurd cc
taken (x ∷ xs) rest (Some ys) (b ∷ bytes) p most ended =
    let tails : xs ++ rest ≡ bytes ++ ys = cc in
    let heads : x ≡ b = cc in
    let more = taken xs rest (Some ys) bytes tails (omega arith) (λ below. ended (omega arith)) in
    let tail : bytes ≡ xs = more.0 in
    (cc, more.1)

-- ---- bytes of forms

pub spell_append : (f : Form) (a b : List ℕ) → spell f (a ++ b) ≡ spell f a ++ b
spell_append Form.Nothing a b = refl
spell_append (Form.Number w n) a b = sym (append_assoc (to_le_bytes w n) a b)
spell_append (Form.Text t) a b =
    ap (λ (l : List ℕ). to_le_bytes w64 (length t) ++ l) (sym (append_assoc t a b)) ∙ sym (append_assoc (to_le_bytes w64 (length t)) (t ++ a) b)
spell_append (Form.Both f g) a b = ap (spell f) (spell_append g a b) ∙ spell_append f (spell g a) b

twenty_eight : (n : ℕ) → suc (suc (suc (suc (suc (suc (suc (suc (suc (suc (suc (suc (suc (suc (suc (suc (suc (suc (suc (suc (suc (suc (suc (suc (suc (suc (suc (suc (n)))))))))))))))))))))))))))) ≡ 28 + n
twenty_eight n = omega arith

pub header_long : (h : Header) (rest : List ℕ) → length (spell (header_form h) rest) ≡ 28 + length rest
header_long h rest = twenty_eight (length rest)

-- ---- slots

pub nothing_left : {A : Type 0} (xs : List A) → length xs ≤ 0 → xs ≡ []
nothing_left [] short = refl
nothing_left (x ∷ xs) short = absurd (omega arith)

take_none : {A : Type 0} (n : ℕ) → take {A = A} 0 [] ≡ take n []
take_none zero = refl
take_none (suc n) = refl

drop_none : {A : Type 0} (n : ℕ) → drop {A = A} 0 [] ≡ drop n []
drop_none zero = refl
drop_none (suc n) = refl

pub take_most : {A : Type 0} (n : ℕ) (xs : List A) → take (min (length xs) n) xs ≡ take n xs
take_most n [] = rw (zero-min n) (take_none n)
take_most zero (x ∷ xs) = rw (min-zero (suc (length xs))) refl
take_most (suc n) (x ∷ xs) = rw (suc-min-suc (length xs) n) (ap (λ (l : List _). x ∷ l) (take_most n xs))

pub drop_most : {A : Type 0} (n : ℕ) (xs : List A) → drop (min (length xs) n) xs ≡ drop n xs
drop_most n [] = rw (zero-min n) (drop_none n)
drop_most zero (x ∷ xs) = rw (min-zero (suc (length xs))) refl
drop_most (suc n) (x ∷ xs) = rw (suc-min-suc (length xs) n) (drop_most n xs)

pub pairs_both : {X Y : Type 0} (R : X → Y → Type 0) (xs zs : List X) (ys ws : List Y) → ArePairwise R xs ys → ArePairwise R zs ws
    → ArePairwise R (xs ++ zs) (ys ++ ws)
pairs_both R [] zs [] ws p q = q
pairs_both R [] zs (y ∷ ys) ws p q = absurd p
pairs_both R (x ∷ xs) zs [] ws p q = absurd p
pairs_both R (x ∷ xs) zs (y ∷ ys) ws p q = (p.0, pairs_both R xs zs ys ws p.1 q)

pub pieces_push : (pieces : List (List ℕ)) (bytes : List ℕ) → pieces_of (pieces ++ bytes ∷ []) ≡ pieces_of pieces ++ piece_of VERSION bytes
pieces_push [] bytes = append-nil (piece_of VERSION bytes)
pieces_push (first ∷ pieces) bytes =
    ap (λ (l : List ℕ). piece_of VERSION first ++ l) (pieces_push pieces bytes)
    ∙ sym (append_assoc (piece_of VERSION first) (pieces_of pieces) (piece_of VERSION bytes))

-- ---- pieces that are written

pub none_added : (x : Option (List ℕ)) → Adds x x []
none_added None = tt
none_added (Some xs) = sym (append-nil xs)

module _ {T : Type 0} (form : T → Form) where
  -- The first k of n pieces were written, and these slots follow.
  pub record AreWritten (n k : ℕ) (slots rest : List (SlotImage T)) (old now : Option (List ℕ)) : Type 0 where
    pub short : length rest ≤ PIECE * (n - k)
    pub done : List ℕ
    pub added : Adds old now done
    pub more : (bytes : List ℕ) → ArePieces form (n - k) rest bytes → ArePieces form n slots (done ++ bytes)

  pub none_written : (slots : List (SlotImage T)) (old : Option (List ℕ)) → AreWritten (length slots / PIECE + 1) 0 slots slots old old
  none_written slots old =
      let n = length slots / PIECE + 1 in
      let all : n - 0 ≡ n = omega arith in
      record {
        short = omega arith;
        done = [];
        added = none_added old;
        more = λ bytes are. subst (λ (m : ℕ). ArePieces form m slots bytes) all are;
      }

  pub one_written : (n k : ℕ) (slots rest front back : List (SlotImage T)) (old mid new : Option (List ℕ)) (first : List ℕ) → k < n
      → AreWritten n k slots rest old mid → front ≡ take PIECE rest → back ≡ drop PIECE rest → IsPieceOf form front first → Adds mid new first
      → AreWritten n (k + 1) slots back old new
  one_written n k slots rest front back old mid new first below before f b piece added =
      let step : n - k ≡ suc (n - (k + 1)) = omega arith in
      record {
        short = let long : length back ≡ length rest - PIECE = ap length b ∙ length-drop PIECE rest in let short = before.short in omega arith;
        done = before.done ++ first;
        added = adds_both old mid new before.done first before.added added;
        more = λ bytes are.
            let all : ArePieces form (suc (n - (k + 1))) rest (first ++ bytes) = (
              first,
              bytes,
              subst (λ (l : List (SlotImage T)). IsPieceOf form l first) f piece,
              subst (λ (l : List (SlotImage T)). ArePieces form (n - (k + 1)) l bytes) b are,
              refl,
            ) in
            subst (λ (l : List ℕ). ArePieces form n slots l) (sym (append_assoc before.done first bytes))
            (before.more (first ++ bytes) (subst (λ (m : ℕ). ArePieces form m rest (first ++ bytes)) (sym step) all));
      }

  pub all_written : (n k : ℕ) (slots rest : List (SlotImage T)) (old now : Option (List ℕ)) → n ≤ k → AreWritten n k slots rest old now
      → (bytes : List ℕ) × ArePieces form n slots bytes × Adds old now bytes
  all_written n k slots rest old now all before =
      let none : n - k ≡ 0 = omega arith in
      let left : rest ≡ [] = nothing_left rest (let short = before.short in omega arith) in
      let last : ArePieces form 0 rest [] = (left, refl) in (
        before.done,
        subst (λ (l : List ℕ). ArePieces form n slots l) (append-nil before.done)
            (before.more [] (subst (λ (m : ℕ). ArePieces form m rest []) (sym none) last)),
        before.added,
      )

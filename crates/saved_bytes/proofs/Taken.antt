-- Pieces that are read.
use Rattle.std.proofs.Common.{◌≡◌, ℕ, suc, ◌+◌, ◌-◌, ◌<◌, ◌≤◌, List, [], ◌∷◌, ◌++◌, length, take, drop, refl, ap, sym, subst, ◌∙◌, arith, Option, Some, None, length-append, append_assoc, inl, inr}
use Rattle.std.specs.Prelude.{min, IfSome}
use Rattle.std.specs.Borrow.{Bor}
use Rattle.std.specs.Io.KnownBytes.{Consumes, IsAtEnd, Keeps}
use Rattle.std.proofs.Math.Nat.{min_comm}
use Rattle.std.proofs.lemmas.List.{append-nil, length-take, take-append-drop}
use Rattle.generational_errors.specs.declared.error.Location.{Location}
use Rattle.store_images.specs.declared.image.SlotImage.{SlotImage}
use Rattle.saved_bytes.specs.Files.{checksum, header, header_form, pieces_of, piece_of, ArePieces, IsPieceOf, IsWhole}
use Rattle.saved_bytes.specs.Forms.{Form, spell}
use Rattle.saved_bytes.specs.Images.{IsSlotAgain}
use Rattle.saved_bytes.specs.Reading.{ArePairwise}
use Rattle.saved_bytes.specs.declared.file.TheConstants.{PIECE, WHOLE}
use Rattle.saved_bytes.specs.declared.pieces.Header.{Header}
use Rattle.saved_bytes.specs.declared.pieces.TheConstants.{HEADER, VERSION}
use Rattle.saved_bytes.proofs.Items.{pairs_long}
use Rattle.saved_bytes.proofs.Written.{consumes_both, header_long, nothing_left, pairs_both, pieces_push, spell_append, taken}

-- ---- one piece

pub kept : (x y z : Option (List ℕ)) (a : List ℕ) → Consumes x y a → Keeps y z → Consumes x z a
kept None y z a p q = tt
kept (Some xs) None z a p q = absurd p
kept (Some xs) (Some ys) None a p q = absurd q
kept (Some xs) (Some ys) (Some zs) a p q = p ∙ ap (λ (l : List ℕ). a ++ l) (sym q)

pub none_taken : (x : Option (List ℕ)) → Consumes x x []
none_taken None = tt
none_taken (Some xs) = refl

pub nothing_taken : (new : Option (List ℕ)) (bytes : List ℕ) → Consumes (Some []) new bytes → bytes ≡ []
nothing_taken None bytes p = absurd p
nothing_taken (Some ys) [] p = refl
nothing_taken (Some ys) (b ∷ bytes) p = absurd cc

-- the bytes of a form were read, and these are left
pub header_taken : (v : ℕ) (inner rest : List ℕ) (old new : Option (List ℕ)) (bytes : List ℕ) → old ≡ Some (spell (header v inner) rest)
    → Consumes old new bytes → length bytes ≤ HEADER → (length bytes < HEADER → IsAtEnd new)
    → (bytes ≡ spell (header v inner) []) × (new ≡ Some rest)
header_taken v inner rest old new bytes is consumed most ended =
    let known : old ≡ Some (spell (header v inner) [] ++ rest) = is ∙ ap (λ (l : List ℕ). Some l) (spell_append (header v inner) [] rest) in
    taken (spell (header v inner) []) rest new bytes (subst (λ (o : Option (List ℕ)). Consumes o new bytes) known consumed) most ended

pub header_only : (h : Header) (bytes rest : List ℕ) → bytes ≡ spell (header_form h) rest → length bytes ≤ HEADER → bytes ≡ spell (header_form h) []
header_only h bytes rest is most =
    let long : length bytes ≡ 28 + length rest = ap length is ∙ header_long h rest in
    let none : rest ≡ [] = nothing_left rest (omega arith) in
    is ∙ ap (spell (header_form h)) none

pub piece_consumed : (h : Header) (old mid new : Option (List ℕ)) (bytes : List ℕ) → Consumes old mid (spell (header_form h) [])
    → Consumes mid new bytes → h.version ≡ VERSION → h.len ≡ length bytes → h.sum ≡ checksum h.version bytes → Consumes old new (piece_of VERSION bytes)
piece_consumed h old mid new bytes first second version len sum =
    let same : header_form h ≡ header VERSION bytes = cc in
    let both : spell (header_form h) [] ++ bytes ≡ piece_of VERSION bytes =
    sym (spell_append (header_form h) [] bytes) ∙ ap (λ (f : Form). spell f bytes) same in
    subst (λ (l : List ℕ). Consumes old new l) both (consumes_both old mid new (spell (header_form h) []) bytes first second)

-- ---- all pieces

-- the input's known bytes were pieces
pub ArePiecesRead : Option (List ℕ) → Option (List ℕ) → Type 0
ArePiecesRead old now = (pieces : List (List ℕ)) × Consumes old now (pieces_of pieces)

pub no_pieces_read : (old : Option (List ℕ)) → ArePiecesRead old old
unfolding ArePiecesRead
no_pieces_read old = ([], none_taken old)

pub one_piece_read : (old mid new : Option (List ℕ)) (inner : List ℕ) → ArePiecesRead old mid → Consumes mid new (piece_of VERSION inner)
    → ArePiecesRead old new
unfolding ArePiecesRead
one_piece_read old mid new inner before one = (
  before.0 ++ inner ∷ [],
  subst (λ (l : List ℕ). Consumes old new l) (sym (pieces_push before.0 inner))
      (consumes_both old mid new (pieces_of before.0) (piece_of VERSION inner) before.1 one),
)

pub all_pieces_read : (old mid new : Option (List ℕ)) → ArePiecesRead old mid → Consumes mid new [] → IsAtEnd new
    → IfSome old (λ bytes. (pieces : List (List ℕ)) × (bytes ≡ pieces_of pieces))
unfolding ArePiecesRead
all_pieces_read None mid new before end at_end = tt
all_pieces_read (Some xs) None new before end at_end = absurd before.1
all_pieces_read (Some xs) (Some ys) None before end at_end = absurd end
all_pieces_read (Some xs) (Some ys) (Some zs) before end at_end =
    let none : ys ≡ [] = end ∙ at_end in
    (before.0, before.1 ∙ (ap (λ (l : List ℕ). pieces_of before.0 ++ l) none ∙ append-nil (pieces_of before.0)))

module _ {T : Type 0} (form : T → Form) (files : List (Bor (List ℕ))) (here : Location) where
  -- Of these slots some were read, and the others follow in n pieces.
  pub record AreGone (n : ℕ) (slots items : List (SlotImage T)) (now : Option (List ℕ)) : Type 0 where
    pub front : List (SlotImage T)
    pub left : List (SlotImage T)
    pub split : front ++ left ≡ slots
    pub same : ArePairwise (IsSlotAgain files here form) front items
    pub bytes : List ℕ
    pub are : ArePieces form n left bytes
    pub known : now ≡ Some bytes

  -- The next piece has these slots.
  pub record IsNext (n most : ℕ) (slots items : List (SlotImage T)) (now : Option (List ℕ)) : Type 0 where
    pub front : List (SlotImage T)
    pub chunk : List (SlotImage T)
    pub left : List (SlotImage T)
    pub split : front ++ (chunk ++ left) ≡ slots
    pub same : ArePairwise (IsSlotAgain files here form) front items
    pub long : length chunk ≡ most
    pub first : List ℕ
    pub rest : List ℕ
    pub piece : IsPieceOf form chunk first
    pub are : ArePieces form n left rest
    pub known : now ≡ Some (first ++ rest)

  pub none_gone : (n : ℕ) (slots : List (SlotImage T)) (now : Option (List ℕ)) (bytes : List ℕ) → ArePieces form n slots bytes
      → now ≡ Some bytes → AreGone (n - 0) slots [] now
  none_gone n slots now bytes are is = let all : n - 0 ≡ n = omega arith in record {
    front = [];
    left = slots;
    split = refl;
    same = tt;
    bytes = bytes;
    are = subst (λ (m : ℕ). ArePieces form m slots bytes) (sym all) are;
    known = is;
  }

  next_of : (n count most : ℕ) (slots items : List (SlotImage T)) (now : Option (List ℕ)) → length slots ≡ count
      → most ≡ min (count - length items) PIECE → AreGone (suc n) slots items now → IsNext n most slots items now
  next_of n count most slots items now long m gone =
      let front_long = pairs_long (IsSlotAgain files here form) gone.front items gone.same in
      let both : length gone.front + length gone.left ≡ length slots = sym (length-append gone.front gone.left) ∙ ap length gone.split in
      let left_long : length gone.left ≡ count - length items = omega arith in
      record {
        front = gone.front;
        chunk = take PIECE gone.left;
        left = drop PIECE gone.left;
        split = ap (λ (l : List (SlotImage T)). gone.front ++ l) (take-append-drop PIECE gone.left) ∙ gone.split;
        same = gone.same;
        long = length-take PIECE gone.left ∙ (min_comm PIECE (length gone.left) ∙ (ap (λ (k : ℕ). min k PIECE) left_long ∙ sym m));
        first = gone.are.0;
        rest = gone.are.1;
        piece = gone.are.2;
        are = gone.are.3;
        known = gone.known ∙ ap (λ (l : List ℕ). Some l) gone.are.4;
      }

  pub next_gone : (n k count most : ℕ) (slots items : List (SlotImage T)) (now : Option (List ℕ)) → k < n → length slots ≡ count
      → most ≡ min (count - length items) PIECE → AreGone (n - k) slots items now → IsNext (n - (k + 1)) most slots items now
  next_gone n k count most slots items now below long m gone =
      let step : n - k ≡ suc (n - (k + 1)) = omega arith in
      next_of (n - (k + 1)) count most slots items now long m (subst (λ (j : ℕ). AreGone j slots items now) step gone)

  pub one_gone : (n most : ℕ) (slots items more : List (SlotImage T)) (now new : Option (List ℕ)) (next : IsNext n most slots items now)
      → ArePairwise (IsSlotAgain files here form) next.chunk more → new ≡ Some next.rest → AreGone n slots (items ++ more) new
  one_gone n most slots items more now new next pairs is = record {
    front = next.front ++ next.chunk;
    left = next.left;
    split = append_assoc next.front next.chunk next.left ∙ next.split;
    same = pairs_both (IsSlotAgain files here form) next.front next.chunk items more next.same pairs;
    bytes = next.rest;
    are = next.are;
    known = is;
  }

  all_of : (slots items : List (SlotImage T)) (now : Option (List ℕ)) → AreGone 0 slots items now
      → ArePairwise (IsSlotAgain files here form) slots items × (now ≡ Some [])
  all_of slots items now gone =
      let whole : gone.front ≡ slots = sym (append-nil gone.front) ∙ (ap (λ (l : List (SlotImage T)). gone.front ++ l) (sym gone.are.0) ∙ gone.split) in
      (subst (λ (l : List (SlotImage T)). ArePairwise (IsSlotAgain files here form) l items) whole gone.same, gone.known ∙ ap (λ (l : List ℕ). Some l) gone.are.1)

  pub all_gone : (n k : ℕ) (slots items : List (SlotImage T)) (now : Option (List ℕ)) → n ≤ k → AreGone (n - k) slots items now
      → ArePairwise (IsSlotAgain files here form) slots items × (now ≡ Some [])
  all_gone n k slots items now all gone =
      let none : n - k ≡ 0 = omega arith in
      all_of slots items now (subst (λ (j : ℕ). AreGone j slots items now) none gone)

-- known bytes, of which a fact is known of the same bytes
pub some_same : (old : Option (List ℕ)) (bytes : List ℕ) (P : List ℕ → Type 0) → IfSome old (λ xs. bytes ≡ xs) → P bytes → IfSome old P
some_same None bytes P is p = tt
some_same (Some xs) bytes P is p = subst P is p

pub some_into : (old : Option (List ℕ)) (P Q : List ℕ → Type 0) → ((xs : List ℕ) → P xs → Q xs) → IfSome old P → IfSome old Q
some_into None P Q f p = tt
some_into (Some xs) P Q f p = f xs p

pub body_then_pieces : (h : Header) (old mid : Option (List ℕ)) (inner : List ℕ) → Consumes old mid inner → h.len ≡ length inner
    → h.sum ≡ checksum h.version inner → IfSome mid (λ bytes. (pieces : List (List ℕ)) × (bytes ≡ pieces_of pieces))
    → IfSome old (λ bytes. (first : List ℕ) × (pieces : List (List ℕ)) × (h.len ≡ length first) × (h.sum ≡ checksum h.version first)
    × (bytes ≡ first ++ pieces_of pieces))
body_then_pieces h None mid inner p len sum after = tt
body_then_pieces h (Some xs) None inner p len sum after = absurd p
body_then_pieces h (Some xs) (Some ys) inner p len sum after =
    (inner, after.0, len, sum, p ∙ ap (λ (l : List ℕ). inner ++ l) after.1)

-- a header, and what follows it
pub whole_file : (h : Header) (old mid : Option (List ℕ)) → Consumes old mid (spell (header_form h) []) → h.version ≡ WHOLE
    → IfSome mid (λ bytes. (h.len ≡ length bytes) × (h.sum ≡ checksum h.version bytes)) → IfSome old IsWhole
whole_file h None mid p version after = tt
whole_file h (Some xs) None p version after = absurd p
whole_file h (Some xs) (Some ys) p version after =
    let len = after.0 in
    let sum = after.1 in
    let same : header_form h ≡ header WHOLE ys = cc in
    inl (ys, p ∙ (sym (spell_append (header_form h) [] ys) ∙ ap (λ (f : Form). spell f ys) same))

pub file_in_pieces : (h : Header) (old mid : Option (List ℕ)) → Consumes old mid (spell (header_form h) []) → h.version ≡ VERSION
    → IfSome mid (λ bytes. (first : List ℕ) × (pieces : List (List ℕ)) × (h.len ≡ length first) × (h.sum ≡ checksum h.version first)
    × (bytes ≡ first ++ pieces_of pieces)) → IfSome old IsWhole
file_in_pieces h None mid p version after = tt
file_in_pieces h (Some xs) None p version after = absurd p
file_in_pieces h (Some xs) (Some ys) p version after =
    let first = after.0 in
    let len = after.2 in
    let sum = after.3 in
    let same : header_form h ≡ header VERSION first = cc in
    let rest : spell (header_form h) [] ++ ys ≡ spell (header_form h) ys = sym (spell_append (header_form h) [] ys) in
    let whole : spell (header_form h) ys ≡ piece_of VERSION first ++ pieces_of after.1 =
    ap (spell (header_form h)) after.4 ∙ (spell_append (header_form h) first (pieces_of after.1)
    ∙ ap (λ (f : Form). spell f first ++ pieces_of after.1) same) in
    inr (first ∷ after.1, p ∙ (rest ∙ whole))

-- Decimal texts, and texts of two numbers.
use Rattle.std.proofs.Common.{◌≡◌, ℕ, zero, suc, ◌<◌, ◌≤◌, ◌+◌, ◌^◌, ◌==◌, List, [], ◌∷◌, ◌++◌, Result, Ok, Some, None, Option, Bool, false, true, cond, Bor}
use Rattle.std.proofs.Common.{add-one, drop, slice_index, arith, refl, sym, ap, ◌∙◌, length, take, get_or, inl, inr, ◌⊎◌}
use Rattle.std.proofs.lemmas.Bool.{eqb-true}
use Rattle.std.proofs.lemmas.List.{length-append, length-drop}
use Rattle.std.proofs.Common.{MatchOption}
use Rattle.std.proofs.Math.Seq.{take-append_seam}
use Rattle.std.proofs.lemmas.Str.Pattern.{IsSplitOnceResult, split_once_first}
use Rattle.std.proofs.Common.{◌%◌}
use Rattle.std.specs.List.{list_any, position_or_len, before_first, after_first}
use Rattle.std.proofs.lemmas.List.Folds.{list_any-append}
use Rattle.std.proofs.lemmas.List.Sums.{split_at_first, passes_at_first}
use Rattle.std.proofs.lemmas.Fmt.{decimal_by_steps, parse-decimal, first_decimal, decimal_digit, decimal-digits_value, decimal_injective}
use Rattle.std.proofs.lemmas.Grind.{common_steps}
use Rattle.std.proofs.lemmas.Str.Parse.{numerals_by_value, tells_digits}
use Rattle.std.specs.Fmt.{decimal}
use Rattle.std.specs.Str.Parse.{IsNumeral, ParsesUnsigned, digits_value, without_leading_plus}

-- a word of one byte, or that begins above '0'
abbrev pub IsShort : List ℕ → Type 0
IsShort word = (length word ≡ 1) ⊎ (48 < slice_index word 0)

-- what is left of it without a plus sign isn't empty only if it has none
plain : (word : List ℕ) (b : Bool) → (slice_index word 0 == 43) ≡ b → IsShort word
    → 0 < length (drop (cond b 1 0) word) → drop (cond b 1 0) word ≡ word
plain word false is short some = refl
plain (x ∷ []) true is short some = absurd (omega arith)
plain word true is (inl one) some = absurd (grind (arith, common_steps, length-drop 1 word))
plain word true is (inr above) some = absurd (let same = eqb-true (slice_index word 0) 43 is in omega arith)

-- a word that is a numeral of 64 bits, of this value
abbrev pub Numbers : List ℕ → ℕ → Type 0
Numbers word n = (IsNumeral 10 word × (digits_value 10 word < 2 ^ 64)) × (n ≡ digits_value 10 word)

-- it is the decimal text of its value
pub decimal_of : (word : List ℕ) (n : ℕ)
    → IsShort word → Numbers (without_leading_plus word) n → word ≡ decimal n
decimal_of word n short read =
    let same : without_leading_plus word ≡ word = plain word _ refl short read.0.0.0 in
    let r : Numbers word n = rw same at read in
    rw r.1
    (sym (decimal-digits_value (numerals_by_value _ tells_digits) word r.0.0.1 r.0.0.0
    (λ z. one short z) (omega (arith, r.0.1))))
  where
    one : IsShort word → get_or word 0 0 ≡ 48 → length word ≡ 1
    one (inl is) z = is
    one (inr above) z = absurd (omega arith)

pub reads : {E : Type 0} (word : List ℕ) (n : ℕ) (r : Result ℕ E)
    → n < 2 ^ 64 → word ≡ decimal n → ParsesUnsigned 64 10 word r → r ≡ Ok n
reads word n r small e h = parse-decimal 64 n word r small small e h

-- the decimal text of a number is such a word
pub is_short : (word : List ℕ) (n : ℕ) → n < 2 ^ 64 → word ≡ decimal n → IsShort word
is_short word zero small e = inl (ap length (e ∙ decimal_digit 0 (omega arith)))
is_short word (suc n) small e = inr (rw e (first_decimal (suc n) (omega arith) small))

-- ==== texts with an '@'

abbrev pub is_at : ℕ → Bool
is_at b = b == 64

-- no digit is an '@'
pub no_at : (n : ℕ) → n < 2 ^ 64 → list_any is_at (decimal n) ≡ false
no_at n small = decimal_by_steps (λ n ds. list_any is_at ds ≡ false)
    (λ n few. digit n few)
    (λ n ds more before. list_any-append is_at ds ((48 + n % 10) ∷ []) ∙ rw before (digit (n % 10) (omega arith)))
    n small
  where
    digit : (n : ℕ) → n < 10 → list_any is_at ((48 + n) ∷ []) ≡ false
    digit n few = let apart : (48 + n == 64) ≡ false = grind (arith, common_steps) in rw apart refl

-- so it comes first after them
pub at_after : (ds rest : List ℕ) → list_any is_at ds ≡ false
    → position_or_len is_at (ds ++ (64 ∷ rest)) ≡ length ds
at_after [] rest none = refl
at_after (d ∷ ds) rest none =
    let rest_of = at_after ds rest (grind arith) in grind arith

-- a text of two numbers, parted at its '@'
pub parts : (bs : List ℕ) (r : Option (Bor (List ℕ) × Bor (List ℕ))) → IsSplitOnceResult 64 bs r
    → (s g : ℕ) → s < 2 ^ 64 → bs ≡ decimal s ++ (64 ∷ decimal g)
    → MatchOption r ⊥ (λ x. (x.0.now ≡ decimal s) × (x.1.now ≡ decimal g))
parts bs r split s g small is = go r (split_once_first 64 bs r split (omega arith))
  where
    first : position_or_len is_at bs ≡ length (decimal s)
    first = rw is (at_after (decimal s) (decimal g) (no_at s small))

    go : (r : Option (Bor (List ℕ) × Bor (List ℕ)))
        → MatchOption r (position_or_len is_at bs ≡ length bs)
        (λ x. (position_or_len is_at bs < length bs) × (x.0.now ≡ before_first is_at bs) × (x.1.now ≡ after_first is_at bs))
        → MatchOption r ⊥ (λ x. (x.0.now ≡ decimal s) × (x.1.now ≡ decimal g))
    go None all = let long = ap length is ∙ length-append (decimal s) (64 ∷ decimal g) in omega (arith, first)
    go (Some x) at = (
      at.1 ∙ rw (first, is) (take-append_seam (decimal s) (64 ∷ decimal g)),
      at.2 ∙ rw (first, is, add-one) (after (decimal s)),
    )
      where
        after : (ds : List ℕ) → drop (suc (length ds)) (ds ++ (64 ∷ decimal g)) ≡ decimal g
        after [] = refl
        after (d ∷ ds) = after ds

pub joined : (bs : List ℕ) (r : Option (Bor (List ℕ) × Bor (List ℕ))) → IsSplitOnceResult 64 bs r
    → MatchOption r (Unit {0}) (λ x. bs ≡ x.0.now ++ (64 ∷ x.1.now))
joined bs r split = go r (split_once_first 64 bs r split (omega arith))
  where
    go : (r : Option (Bor (List ℕ) × Bor (List ℕ)))
        → MatchOption r (position_or_len is_at bs ≡ length bs)
        (λ x. (position_or_len is_at bs < length bs) × (x.0.now ≡ before_first is_at bs) × (x.1.now ≡ after_first is_at bs))
        → MatchOption r (Unit {0}) (λ x. bs ≡ x.0.now ++ (64 ∷ x.1.now))
    go None all = tt
    go (Some x) at =
        let own = eqb-true (get_or bs (position_or_len is_at bs) 0) 64 (passes_at_first is_at bs 0 at.0) in
        rw (at.1, at.2) (split_at_first is_at bs 0 at.0 ∙ rw own refl)

use Rattle.std.proofs.Common.{◌≡◌, ℕ, zero, suc, ◌<◌, ◌≤◌, ◌^◌, ◌==◌, List, Result, Ok, false, cond}
use Rattle.std.proofs.Common.{drop, slice_index, arith, refl, sym, ap, ◌∙◌}
use Rattle.std.proofs.lemmas.Fmt.{parse-decimal, first_decimal, decimal_digit, decimal-digits_value}
use Rattle.std.proofs.lemmas.Grind.{common_steps}
use Rattle.std.proofs.lemmas.Option.{none-some, same_Some}
use Rattle.std.proofs.lemmas.Str.Parse.{numerals_by_value, tells_digits}
use Rattle.std.specs.Fmt.{decimal}
use Rattle.std.specs.Str.Parse.{IsNumeral, ParsesUnsigned, digits_value, without_leading_plus}
use Rattle.boxes_script.proofs.numbers.line_number.Goals as goal

-- the decimal text of a line's number begins above '0', and is read as that number
begins : (word : List ℕ) (n : ℕ)
    → 0 < n → n ≤ 1000000 → word ≡ decimal n → 48 < slice_index word 0
begins word n some small e = rw e (first_decimal n some (omega arith))

reads : {E : Type 0} (word : List ℕ) (n : ℕ) (r : Result ℕ E)
    → n ≤ 1000000 → word ≡ decimal n → ParsesUnsigned 32 10 word r → r ≡ Ok n
reads word n r small e h = parse-decimal 32 n word r (omega arith) (omega arith) e h

-- a text that begins above '0' has no plus sign in front
plain : (word : List ℕ) → 48 < slice_index word 0 → without_leading_plus word ≡ word
plain word h =
    let e : (slice_index word 0 == 43) ≡ false = grind (arith, common_steps) in
    ap (λ b. drop (cond b 1 0) word) e

-- and is the decimal text of what it is read as
positive : (word : List ℕ) (n : ℕ) → word ≡ decimal n → 48 < slice_index word 0 → 0 < n
positive word zero e h =
    let k : slice_index word 0 ≡ 48 =
    ap (λ w. slice_index w 0) (e ∙ decimal_digit 0 (omega arith)) in omega arith
positive word (suc n) e h = omega arith

-- a word that is a numeral of 32 bits, of this value
abbrev Numbers : List ℕ → ℕ → Type 0
Numbers word n = (IsNumeral 10 word × (digits_value 10 word < 2 ^ 32)) × (n ≡ digits_value 10 word)

decimal_of : (word : List ℕ) (n : ℕ)
    → 48 < slice_index word 0 → Numbers (without_leading_plus word) n → word ≡ decimal n
decimal_of word n h read =
    let r : Numbers word n = rw (plain word h) at read in
    rw r.1
    (sym (decimal-digits_value (numerals_by_value _ tells_digits) word r.0.0.1 r.0.0.0
    (λ z. absurd (omega arith)) (omega (arith, r.0.1))))

pub returns-then-not-begins_above_zero : goal.returns-then-not-begins_above_zero
returns-then-not-begins_above_zero c = λ n. (
  (λ e. absurd (none-some n e)),
  (λ h. grind (arith, c.if-not-begins_above_zero.ensures.1 (begins c.args.word.now n h.0 h.1 h.2))),
)

pub returns-then-number-le-MOST_LINES : goal.returns-then-number-le-MOST_LINES
returns-then-number-le-MOST_LINES c =
    let above : 48 < slice_index c.args.word.now 0 = c.if-not-begins_above_zero.ensures.0 refl in
    let w : c.args.word.now ≡ decimal c.in-Ok.number =
    decimal_of c.args.word.now c.in-Ok.number above c.in-Ok.ensures.value.0 in
    λ n. (
      (λ e. rw (sym (same_Some c.in-Ok.number n e))
          (positive c.args.word.now c.in-Ok.number w above, c.if-number-le-MOST_LINES.true, w)),
      (λ h. grind (arith, reads c.args.word.now n c.parse.result h.1 h.2 c.parse.ensures.value.0)),
    )

pub returns-else-number-le-MOST_LINES : goal.returns-else-number-le-MOST_LINES
returns-else-number-le-MOST_LINES c = λ n. (
  (λ e. absurd (none-some n e)),
  (λ h. grind (arith, reads c.args.word.now n c.parse.result h.1 h.2 c.parse.ensures.value.0)),
)

pub returns-in-Err : goal.returns-in-Err
returns-in-Err c = λ n. (
  (λ e. absurd (none-some n e)),
  (λ h. grind (arith, reads c.args.word.now n c.parse.result h.1 h.2 c.parse.ensures.value.0)),
)

use Rattle.std.proofs.Common.{◌≡◌, ℕ, ◌<◌, arith, refl}
use Rattle.std.proofs.lemmas.Option.{none-some, same_Some}
use Rattle.std.specs.Fmt.{decimal}
use Rattle.generational_box.proofs.numerals.{decimal_of, is_short, reads}
use Rattle.generational_box.proofs.id_text.parse_number.Goals as goal

pub returns-then-not-may_be_decimal : goal.returns-then-not-may_be_decimal
returns-then-not-may_be_decimal c = λ n. (
  (λ e. absurd (none-some n e)),
  (λ h. grind (arith, c.if-not-may_be_decimal.ensures.1 (is_short c.args.word.now n h.0 h.1))),
)

pub returns-in-Ok : goal.returns-in-Ok
returns-in-Ok c =
    let short = c.if-not-may_be_decimal.ensures.0 refl in
    let number = c.in-Ok.ensures.value.0 in
    let w : c.args.word.now ≡ decimal c.in-Ok.number = decimal_of c.args.word.now c.in-Ok.number short number in
    λ n. (
      (λ e. rw (← same_Some c.in-Ok.number n e) (omega (arith, number.0.1, number.1), w)),
      (λ h. grind (arith, reads c.args.word.now n c.parse.result h.0 h.1 c.parse.ensures.value.0)),
    )

pub returns-in-Err : goal.returns-in-Err
returns-in-Err c = λ n. (
  (λ e. absurd (none-some n e)),
  (λ h. grind (arith, reads c.args.word.now n c.parse.result h.0 h.1 c.parse.ensures.value.0)),
)

-- The plans of formulas.
use Rattle.std.specs.Prelude.{ℕ, ◌+◌, ◌*◌, ◌^◌, if◌then◌else◌, nat_lt}
use Rattle.reactive.specs.Plans.{Plan, Give, Stop, Ask}
use Rattle.example_sheet.specs.declared.formula.Formula.{Formula}
use Rattle.example_sheet.specs.declared.formula.Formula.TheVariants as formula

-- a number, if it isn't too large
abbrev pub give_small : ℕ → Plan ℕ
give_small n = if nat_lt n (2 ^ 64) then Give n else Stop

abbrev pub plan_of : Formula → Plan ℕ
plan_of formula.Blank = Stop
plan_of (formula.Same a) = Ask a (λ x. Give x)
plan_of (formula.Add a b) = Ask a (λ x. Ask b (λ y. give_small (x + y)))
plan_of (formula.Mul a b) = Ask a (λ x. Ask b (λ y. give_small (x * y)))

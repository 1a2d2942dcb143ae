-- The plans of the formulas of prices.
use Rattle.std.specs.Prelude.{ℕ, ◌+◌, ◌*◌, ◌%◌, ◌^◌}
use Rattle.reactive.specs.Plans.{Plan, Give, Ask}
use Rattle.example_libraries.specs.declared.prices.Formula.{Formula}
use Rattle.example_libraries.specs.declared.prices.Formula.TheVariants as formula

abbrev pub plan_of : Formula → Plan ℕ
plan_of (formula.Sum a b) = Ask a (λ x. Ask b (λ y. Give ((x + y) % 2 ^ 64)))
plan_of (formula.Product a b) = Ask a (λ x. Ask b (λ y. Give ((x * y) % 2 ^ 64)))

-- What the rules of the measured memos do.
use Rattle.std.specs.Prelude.{ℕ, ◌+◌, ◌%◌, ◌/◌, ◌^◌, List, [], ◌∷◌}
use Rattle.reactive.specs.Plans.{Plan, Give, Ask}
use Rattle.reactive.specs.declared.key.Key.{Key}
use Rattle.bench_libraries.specs.declared.memos.Formula.{Formula}
use Rattle.bench_libraries.specs.declared.memos.Formula.TheVariants as formula

-- a sum, and the numbers of these nodes added to it
abbrev pub sum_plan : List Key → ℕ → Plan ℕ
sum_plan [] sum = Give sum
sum_plan (key ∷ keys) sum = Ask key (λ x. sum_plan keys ((sum + x) % 2 ^ 64))

abbrev pub plan_of : Formula → Plan ℕ
plan_of (formula.Next a) = Ask a (λ x. Give ((x + 1) % 2 ^ 64))
plan_of (formula.Half a) = Ask a (λ x. Give (x / 2 ^ 1))
plan_of (formula.High a) = Ask a (λ x. Give (x / 2 ^ 40))
plan_of (formula.Both a b) = Ask a (λ x. Ask b (λ y. Give ((x + y) % 2 ^ 64)))
plan_of (formula.Sum keys) = sum_plan keys.items 0

-- The plans of rules over texts and lists.
use Rattle.std.specs.Prelude.{codes, ℕ, List, [], ◌∷◌, ◌++◌, length}
use Rattle.reactive.specs.Plans.{Plan, Give, Ask}
use Rattle.example_libraries.specs.declared.phrases.Phrase.{Phrase}
use Rattle.example_libraries.specs.declared.phrases.Phrase.TheVariants as phrase
use Rattle.example_libraries.specs.declared.phrases.Row.{Row}
use Rattle.example_libraries.specs.declared.phrases.Row.TheVariants as row

abbrev pub phrase_plan : Phrase → Plan (List ℕ)
phrase_plan (phrase.Twice a) = Ask a (λ x. Give (x ++ x))
phrase_plan (phrase.Joined a b) = Ask a (λ x. Ask b (λ y. Give (x ++ y)))
phrase_plan (phrase.Blank alloc) = Give (codes "none")

abbrev pub row_plan : Row → Plan (List ℕ)
row_plan (row.Longer list last) = Ask list (λ xs. Give (xs ++ last ∷ []))
row_plan (row.Lengths a b alloc) = Ask a (λ xs. Ask b (λ ys. Give (length xs ∷ length ys ∷ [])))

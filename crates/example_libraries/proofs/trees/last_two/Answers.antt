use Rattle.example_libraries.proofs.{ap, arith, List, Option, Some, ◌∙◌, ◌≡◌, ◌∷◌, []}
use Rattle.std.proofs.lemmas.List.{reverse-append}
use Rattle.std.specs.Iterator.{YieldsFirst}
use Rattle.std.specs.Prelude.{reverse}
use Rattle.example_libraries.proofs.trees.last_two.Goals as goal

-- what two calls yield of a list that begins with two items
two_first : {X : Type 0} (s t u : List X) (a b : Option X) (x y : X) (more : List X)
    → YieldsFirst (λ left. left) s a t → YieldsFirst (λ left. left) t b u → s ≡ x ∷ y ∷ more
    → (a ≡ Some x) × (b ≡ Some y)
two_first s t u a b x y more one two is = grind arith

pub returns : goal.returns
returns g c others first second is =
    let both = two_first _ _ _ _ _ second first (reverse others) c.next-last.ensures.steps c.next-before.ensures.steps
    (c.in_ok-children.ensures.children ∙ (ap reverse is ∙ reverse-append others (first ∷ second ∷ []))) in
    λ i. (both.0 i, both.1 i)

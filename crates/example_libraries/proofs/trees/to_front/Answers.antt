use Rattle.example_libraries.proofs.{IfOk-weaker, sym, ◌∙◌}
use Rattle.example_libraries.proofs.trees.to_front.Goals as goal

pub returns-in-Some : goal.returns-in-Some
returns-in-Some g c =
    IfOk-weaker c.move_at.result _ _ (λ _ placed up is. placed up (sym c.in-Some.is ∙ (c.in_ok-parent.ensures.parent ∙ is)))
    c.move_at.ensures.placed

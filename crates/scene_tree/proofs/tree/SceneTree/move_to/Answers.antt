use Rattle.scene_tree.proofs.{IfOk-weaker, IsOther, same_Some, subst}
use Rattle.scene_tree.proofs.tree.SceneTree.move_to.Goals as goal

pub returns-clause-lost : goal.returns-clause-lost
returns-clause-lost g c = IfOk-weaker c.move_at.result _ _ (λ x lost up is other. lost up is (λ to same.
    subst (λ p. IsOther p up) (same_Some c.args.parent to same) other)) c.move_at.ensures.lost

use Rattle.example_libraries.proofs.{ap, Err, inl, none-some, refl, sym, ◌∙◌}
use Rattle.scene_tree.specs.declared.node.TreeError.TheVariants as error
use Rattle.example_libraries.proofs.trees.told_after.Goals as goal

pub returns-in-Ok : goal.returns-in-Ok
returns-in-Ok g c l told =
    let first = c.args.first in
    let removed = c.in_ok-remove_subtree.ensures in
    let gone = removed.gone first ((removed.subtree.below first).1 (0, refl)) in
    let left = (c.add_root.ensures.left first (removed.kept first c.requires)).value in
    absurd (none-some _ (sym (left ∙ gone) ∙ c.in-Ok.ensures.seen))

pub returns-in-Err : goal.returns-in-Err
returns-in-Err g c l told = inl (ap (λ created_at. Err (error.Stale (record { created_at = created_at })))
    (c.in-Err.ensures.told ∙ c.add_root.ensures.tells c.args.first l (c.in_ok-remove_subtree.ensures.tells c.args.first ∙ told)))

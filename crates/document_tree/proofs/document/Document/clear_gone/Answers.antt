use Rattle.document_tree.proofs.{shows_live}
use Rattle.document_tree.proofs.{◌∙◌}
use Rattle.document_tree.proofs.document.Document.clear_gone.Goals as goal

pub returns-clause-shown : goal.returns-clause-shown
returns-clause-shown g c =
    let key = c.in_ok-key.ensures.key in
    let first = c.swap_children-children.ensures.changed c.args.parent key in
    shows_live _ _ _ first c.retain_live.ensures
    (c.swap_children-2.ensures.changed c.args.parent (first.parts c.args.parent ∙ key))
    (c.swap_children-children.ensures.old c.args.parent key)

use Rattle.document_tree.proofs.{arith}
use Rattle.document_tree.proofs.{put_back}
use Rattle.document_tree.proofs.{◌∙◌}
use Rattle.document_tree.proofs.document.Document.insert.Goals as goal

pub swap_children-children-requires : goal.swap_children-children-requires
swap_children-children-requires g c = (c.args.parent, c.in_ok-key.ensures.key)

pub swap_children-requires : goal.swap_children-requires
swap_children-requires g c =
    let key = c.in_ok-key.ensures.key in
    let first = c.swap_children-children.ensures.changed c.args.parent key in
    (c.args.parent, first.parts c.args.parent ∙ key)

pub returns-then-not-inserted-clause-refused : goal.returns-then-not-inserted-clause-refused
returns-then-not-inserted-clause-refused g c =
    let key = c.in_ok-key.ensures.key in
    let first = c.swap_children-children.ensures.changed c.args.parent key in
    put_back _ _ _ first (c.swap_children-2.ensures.changed c.args.parent (first.parts c.args.parent ∙ key))
    (c.insert_place-inserted.ensures.same (grind arith)) (c.swap_children-children.ensures.old c.args.parent key)

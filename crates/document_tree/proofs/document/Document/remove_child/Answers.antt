use Rattle.document_tree.proofs.{ap, children_in, unwrap_or, [], ◌≡◌}
use Rattle.document_tree.proofs.document.Document.remove_child.Goals as goal

pub returns-in_default-clause-index : goal.returns-in_default-clause-index
returns-in_default-clause-index g c =
    let is : children_in c.args.self.now c.args.parent ≡ c.in_ok-children.children.now =
    ap (λ o. unwrap_or o []) c.in_ok-children.ensures.seen in rw is c.in_default.ensures.index

pub returns-clause-index : goal.returns-clause-index
returns-clause-index g c =
    let is : children_in c.args.self.now c.args.parent ≡ c.in_ok-children.children.now =
    ap (λ o. unwrap_or o []) c.in_ok-children.ensures.seen in rw is c.in-Some.ensures.index

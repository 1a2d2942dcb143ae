use Rattle.document_tree.proofs.{ap, children_in, items_from_extend, on_ok_weaker, unwrap_or}
use Rattle.document_tree.proofs.{YieldsList-from_copied, YieldsList-from_rev_slice, [], ◌≡◌}
use Rattle.document_tree.proofs.document.Document.put_children.Goals as goal

pub returns-in-Ok : goal.returns-in-Ok
returns-in-Ok g c =
    let children = c.in-Ok.children.now in
    let is : children_in c.args.self.now c.args.place ≡ children =
    ap (λ o. unwrap_or o []) c.in-Ok.ensures.seen in
    on_ok_weaker c.extend.result (λ held. rw is held.0)
    (items_from_extend c.extend.result c.extend.ensures.ran
    (YieldsList-from_copied (YieldsList-from_rev_slice children cc)))

use Rattle.document_tree.proofs.{ap, children_in, items_from_extend, on_ok_weaker, rules, unwrap_or}
use Rattle.document_tree.proofs.{YieldsList-at, YieldsList-from_map, YieldsList-from_rev_slice, [], ◌≡◌}
use Rattle.document_tree.proofs.document.Document.put_children_at.Goals as goal

pub returns-in-Ok : goal.returns-in-Ok
returns-in-Ok g c =
    let children = c.in-Ok.children.now in
    let is : children_in c.args.self.now c.args.place ≡ children =
    ap (λ o. unwrap_or o []) c.in-Ok.ensures.seen in
    on_ok_weaker c.extend.result (λ held. rw is held.0)
    (items_from_extend c.extend.result c.extend.ensures.ran
    (YieldsList-from_map _ (λ q. (c.args.depth, q))
    (YieldsList-at c.map.ensures.source (YieldsList-from_rev_slice children cc))
    c.map.ensures.closure (λ x r q k. search rules)))

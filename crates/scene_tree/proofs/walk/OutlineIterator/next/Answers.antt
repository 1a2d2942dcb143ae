use Rattle.scene_tree.proofs.{ap, arith, families, length, rows, rows_end, rows_more, rows_none, rules, waiting, ◌∙◌, ◌≢◌}
use Rattle.scene_tree.proofs.walk.OutlineIterator.next.Goals as goal

pub returns-then-self-eq0-clause-steps : goal.returns-then-self-eq0-clause-steps
returns-then-self-eq0-clause-steps g c = grind (arith, rows_none)

pub returns-in_err-depth-clause-steps : goal.returns-in_err-depth-clause-steps
returns-in_err-depth-clause-steps g c = grind (arith, rows_end)

pub returns-clause-steps : goal.returns-clause-steps
returns-clause-steps g c =
    let links = c.self.inside.links.now.items in
    let some : c.self.inside.left ≢ 0 = grind arith in
    rw (← c.self.view_is) (ap (λ o. rows (families links) c.self.inside.left (waiting links o)) c.in_ok-depth.was
    ∙ rows_more links c.self.inside.left c.in_ok-depth.depth c.in_ok-depth.node some c.slot_of.result c.slot_of.ensures
    c.next_row-self-inside.result c.next_row-self-inside.ensures.next)

pub returns-clause-goes : goal.returns-clause-goes
returns-clause-goes g c = let less = ap length (returns-clause-steps g c) in search (rules, arith)

use Rattle.reactive.proofs.{arrives, comes_by, found_by, needs_gone, rerun_none, rerun_needs, sym, ◌∙◌}
use Rattle.reactive.proofs.nodes.Nodes.rerun.Goals as goal

pub returns-in-Some-node_of-clause-finds : goal.returns-in-Some-node_of-clause-finds
returns-in-Some-node_of-clause-finds g c = λ G n r s at has.
    let run = c.run-result.ensures in
    rerun_needs s c.args.key c.in-Some.node.now (sym c.in-Some.ensures) _ c.in-Some-rule.is run.0 run.4 _ _
    (rw c.in-Some-lacks.is at (run.3 c.if-is_full.false))

pub returns-in-Some-lacks-clause-finds : goal.returns-in-Some-lacks-clause-finds
returns-in-Some-lacks-clause-finds g c = λ G n r s at has.
    let run = c.run-result.ensures in
    let gone = sym c.in-None-node_of.ensures in
    let need = rerun_needs s c.args.key c.in-Some.node.now (sym c.in-Some.ensures) _ c.in-Some-rule.is run.0 run.4 _ _
    (rw c.in-Some-lacks.is at (run.3 c.if-is_full.false)) in
    (needs_gone s c.args.key _ need gone, comes_by c.args.key _ _ need (arrives _), gone)

pub returns-in-Some-result-clause-finds : goal.returns-in-Some-result-clause-finds
returns-in-Some-result-clause-finds g c = λ G n r s at has.
    let run = c.run-result.ensures in
    found_by s c.args.key c.in-Some.node.now (sym c.in-Some.ensures) _ c.in-Some-rule.is run.0 run.4 _ _ _ run.1
    (run.2 ∙ c.deref.ensures.value) (rw (c.in-None.is, c.in-Some-result.is) at (run.3 c.if-is_full.false)) _
    c.is_kept.ensures.value _ c.value_found.ensures

pub returns-in-Some-result-clause-owned : goal.returns-in-Some-result-clause-owned
returns-in-Some-result-clause-owned g c = λ v is.
    let by = rw is at c.value_found.ensures in c.is_kept.ensures.owned by.2

pub returns-clause-finds : goal.returns-clause-finds
returns-clause-finds g c = λ G n r s at has.
    let run = c.run-result.ensures in
    rerun_none s c.args.key c.in-Some.node.now (sym c.in-Some.ensures) _ c.in-Some-rule.is run.0 run.4
    (rw (c.in-None.is, c.in-None-result.is) at (run.3 c.if-is_full.false))

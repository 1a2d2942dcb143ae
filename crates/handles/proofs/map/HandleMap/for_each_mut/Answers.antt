use Rattle.std.proofs.Common.{arith, length, refl, rules, sym, ◌≤◌, ◌∙◌}
use Rattle.handles.specs.Visits.{CalledOn}
use Rattle.handles.proofs.Visits.{visits_begun, visits_count, visits_done, visits_more}
use Rattle.handles.proofs.map.HandleMap.for_each_mut.Goals as goal

pub loop-slot-init : goal.loop-slot-init
loop-slot-init g c = record {
  callable = c.requires;
  visited = visits_begun _ _ (CalledOn g.F.FnMut) _ _ _;
  own = refl;
  live = refl;
}

pub invariant_of-self : goal.invariant_of-self
invariant_of-self g c =
    let so = c.loop-slot.invariant in
    let le : length c.self.inside.rows.items ≤ c.loop-slot.slot = omega (arith, c.len-slot-end.ensures, c.loop-slot-test.false) in (
      so.live ∙ (c.self.invariant.0 ∙ sym (visits_count _ _ (CalledOn g.F.FnMut) _ so.visited le)),
      omega (arith, so.visited.same, c.self.invariant.1),
    )

pub visit-requires-clause-callable : goal.visit-requires-clause-callable
visit-requires-clause-callable g c = c.loop-slot.invariant.callable

pub loop-slot-preserved : goal.loop-slot-preserved
loop-slot-preserved g c = record {
  callable = c.visit.ensures.callable;
  visited = visits_more _ _ (CalledOn g.F.FnMut) _ _ _ c.loop-slot.invariant.visited
      (omega (arith, c.loop-slot.invariant.visited.same, c.len-slot-end.ensures, c.loop-slot-test.true)) (rw c.index_mut.ensures.value at c.visit.ensures.changed);
  own = c.loop-slot.invariant.own;
  live = c.loop-slot.invariant.live;
}

pub returns-clause-visited : goal.returns-clause-visited
returns-clause-visited g c =
    let so = c.loop-slot.invariant in
    let le : length c.self.inside.rows.items ≤ c.loop-slot.slot = omega (arith, c.len-slot-end.ensures, c.loop-slot-test.false) in
    rw (← c.self.view_is) (c.loop-slot.f, rw so.own (visits_done _ _ (CalledOn g.F.FnMut) _ so.visited le))

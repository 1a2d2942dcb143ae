use Rattle.std.proofs.Common.{arith, length, min, refl, rules, sym, ◌≤◌, ◌<◌, ◌≡◌, ◌∙◌}
use Rattle.handles.specs.declared.map.Row.TheVariants.{Vacant}
use Rattle.handles.specs.Visits.{CalledOnBoth}
use Rattle.handles.proofs.Visits.{any_default, both_begun, both_done, both_visits_more, fewest, none_changed, none_in_both}
use Rattle.handles.proofs.map.HandleMap.for_each2_mut.Goals as goal

pub returns-then-self-other-clause-visited : goal.returns-then-self-other-clause-visited
returns-then-self-other-clause-visited g c = (
  c.args.f,
  rw (none_in_both g.row.T.Denot g.row.K.Denot 0 c.args.self.now c.args.other.now (rw (← c.self.view_is, ← c.other.view_is) c.if-self-other.true))
      (none_changed (CalledOnBoth g.F.FnMut) c.args.f),
)

pub loop-slot-init : goal.loop-slot-init
loop-slot-init g c = record {
  callable = c.requires;
  visited = both_begun _ _ _ (CalledOnBoth g.F.FnMut) _ _ _;
  own = (refl, refl);
  others = (refl, refl);
}

pub loop-slot-preserved : goal.loop-slot-preserved
loop-slot-preserved g c =
    let so = c.loop-slot.invariant in
    let fewer = fewest _ _ c.min-slot-end.ensures in
    let lt : c.loop-slot.slot < length c.loop-slot.self-inside.rows.items =
    omega (arith, so.visited.lengths.0, c.len.ensures, fewer.0, c.loop-slot-test.true) in
    let lt' : c.loop-slot.slot < length c.loop-slot.other-inside.rows.items =
    omega (arith, so.visited.lengths.1, c.len-2.ensures, fewer.1, c.loop-slot-test.true) in
    let a = c.index_mut.ensures.value ∙ any_default c.loop-slot.self-inside.rows.items c.loop-slot.slot _ Vacant lt in
    let b = c.index_mut-in-loop-slot.ensures.value ∙ any_default c.loop-slot.other-inside.rows.items c.loop-slot.slot _ Vacant lt' in
    let done = c.visit_both.ensures in record {
      callable = done.callable;
      visited = both_visits_more _ _ _ (CalledOnBoth g.F.FnMut) _ _ so.visited lt lt' (rw (a, b) at done.changed)
          (rw (a, b) at done.first) (rw (a, b) at done.second) (rw (a, b) at done.counts);
      own = so.own;
      others = so.others;
    }

pub returns-clause-visited : goal.returns-clause-visited
returns-clause-visited g c =
    let so = c.loop-slot.invariant in
    let le : min (length c.self.inside.rows.items) (length c.other.inside.rows.items) ≤ c.loop-slot.slot =
    omega (arith, rw (c.len.ensures, c.len-2.ensures) at c.min-slot-end.ensures, c.loop-slot-test.false) in
    rw (← c.self.view_is, ← c.other.view_is) (
      c.loop-slot.f,
      rw (so.own.0, so.others.0, ← c.if-self-other.false) (both_done _ _ _ (CalledOnBoth g.F.FnMut) so.visited le),
    )

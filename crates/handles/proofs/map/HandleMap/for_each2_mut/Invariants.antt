use Rattle.std.proofs.Common.{◌≡◌}
use Rattle.handles.specs.Visits.{CalledOnBoth}
use Rattle.handles.proofs.Visits.{AreBothVisited}
use Rattle.handles.proofs.map.HandleMap.for_each2_mut.Given as goal

abbrev pub invariant-loop-slot : goal.invariant-loop-slot
invariant-loop-slot g l = record {
  callable : goal.F-IsAlwaysCallable g l.f;
  visited : AreBothVisited g.row.T.Denot g.row.K.Denot l.number (CalledOnBoth g.F.FnMut) l.fn.f
      l.initial.self-inside.rows.items l.initial.other-inside.rows.items l.f l.self-inside.rows.items l.other-inside.rows.items l.slot;
  own : (l.self-inside.number ≡ l.initial.self-inside.number) × (l.self-inside.live ≡ l.initial.self-inside.live);
  others : (l.other-inside.number ≡ l.initial.other-inside.number) × (l.other-inside.live ≡ l.initial.other-inside.live);
}

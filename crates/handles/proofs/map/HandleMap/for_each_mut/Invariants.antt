use Rattle.std.proofs.Common.{◌≡◌}
use Rattle.handles.specs.Visits.{CalledOn}
use Rattle.handles.proofs.Visits.{AreVisited}
use Rattle.handles.proofs.map.HandleMap.for_each_mut.Given as goal

abbrev pub invariant-loop-slot : goal.invariant-loop-slot
invariant-loop-slot g l = record {
  callable : goal.F-IsAlwaysCallable g l.f;
  visited : AreVisited g.row.T.Denot g.row.K.Denot (CalledOn g.F.FnMut) l.number l.fn.f l.initial.self-inside.rows.items l.f l.self-inside.rows.items l.slot;
  own : l.self-inside.number ≡ l.initial.self-inside.number;
  live : l.self-inside.live ≡ l.initial.self-inside.live;
}

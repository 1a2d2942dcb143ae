use Rattle.entity_table.proofs.{IsTableKept, IsVisited, length, listed, map, ◌≡◌}
use Rattle.generational_core.specs.State.{IsGiven}
use Rattle.generational_core.specs.Names.{Name}
use Rattle.handles.specs.Visits.{CalledOn}
use Rattle.entity_table.proofs.table.EntityTable.for_each_mut.Given as goal

abbrev pub invariant-loop-entity : goal.invariant-loop-entity
invariant-loop-entity g l = record {
  callable : goal.F-IsAlwaysCallable g l.f;
  visited : IsVisited (CalledOn g.F.FnMut) (map (λ p. p.0) (listed l.initial.self-inside.1.1.0))
      (g.S.AnyStorage.state l.initial.self-inside.1.0) l.fn.f (g.S.AnyStorage.state l.self-inside.1.0) l.f (map (λ p. p.0) l.rows);
  kept : IsTableKept (g.S.AnyStorage.state l.self-inside.1.0) l.initial.self-inside.1.1.0;
  given : (n : Name) → IsGiven (g.S.AnyStorage.state l.initial.self-inside.1.0) n → IsGiven (g.S.AnyStorage.state l.self-inside.1.0) n;
  number : (g.S.AnyStorage.state l.self-inside.1.0).number ≡ (g.S.AnyStorage.state l.initial.self-inside.1.0).number;
}

abbrev pub decreases-loop-entity : goal.decreases-loop-entity
decreases-loop-entity g l = length l.rows

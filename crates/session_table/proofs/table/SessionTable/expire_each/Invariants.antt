use Rattle.session_table.proofs.{AreCalled, false, is_young, LiveSession, Sheds, slice_get, Some, ◌≡◌}
use Rattle.std.proofs.Common.{length, ◌-◌}
use Rattle.session_table.proofs.table.SessionTable.expire_each.Given as goal

abbrev pub invariant-places : goal.invariant-places
invariant-places g l = record {
  callable : goal.F-IsAlwaysCallable g l.f;
  old : (e : g.row.I.Denot × LiveSession g.row.K.Denot g.row.T.Denot) → slice_get l.self.sessions l.place ≡ Some e
      → is_young l.before e.1 ≡ false;
  shed : Sheds g.I.PartialEq.eq l.before l.place l.fn.self l.self;
  called : AreCalled l.before (λ p id q. goal.F-step g p id tt q) l.fn.f l.place l.fn.self l.self l.f;
}

abbrev pub decreases-places : goal.decreases-places
decreases-places g l = length l.self.sessions - l.place

use Rattle.session_table.proofs.{is_young, length, LiveSession, slice_get, Some, true, ◌-◌, ◌<◌, ◌≡◌, ◌≤◌, ℕ}
use Rattle.session_table.proofs.table.SessionTable.next_old.Given as goal

abbrev pub invariant-places : goal.invariant-places
invariant-places g l = record {
  from : l.from ≤ l.place;
  within : l.place ≤ length l.self.sessions;
  young : (i : ℕ) (e : g.row.I.Denot × LiveSession g.row.K.Denot g.row.T.Denot) → l.from ≤ i → i < l.place
      → slice_get l.self.sessions i ≡ Some e → is_young l.before e.1 ≡ true;
  same : l.self ≡ l.fn.self;
}

abbrev pub decreases-places : goal.decreases-places
decreases-places g l = length l.self.sessions - l.place

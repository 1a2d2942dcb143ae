use Rattle.session_table.proofs.{HasLost, length, entry_names, take, ◌-◌, ◌≤◌}
use Rattle.session_table.proofs.session.Session.end.Given as goal

abbrev pub invariant-ends : goal.invariant-ends
invariant-ends g l = (l.next ≤ length l.entries.entries)
    × HasLost (g.S.AnyStorage.state l.fn.store) (take l.next (entry_names l.entries.entries)) (g.S.AnyStorage.state l.store)

abbrev pub decreases-ends : goal.decreases-ends
decreases-ends g l = length l.entries.entries - l.next

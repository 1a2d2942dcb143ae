use Rattle.generational_sessions.proofs.{◌≡◌, reverse, map, release_all, as_held}
use Rattle.generational_sessions.proofs.session.Session.finish.Given as goal

-- releasing the remaining things leads to what releasing the whole table leads to
abbrev pub invariant-loop-thing : goal.invariant-loop-thing
invariant-loop-thing g l = release_all (g.S.AnyStorage.state l.store)
    (map as_held (reverse l.things.items)) ≡ release_all l.fn.self.state l.fn.self.table

abbrev pub decreases-loop-thing : goal.decreases-loop-thing
decreases-loop-thing g l = goal.left-loop-thing g l

-- The base tells the state that the image tells.
use Rattle.shared_state.proofs.{begun_at, rules, SharedState, subst, Trims, ◌≡◌}
use Rattle.shared_state.proofs.state.SyncState.begin_from.Goals as goal

pub invariant_of-self : goal.invariant_of-self
invariant_of-self g c =
    let same : c.replace.new.dest.state ≡ c.in-Ok.store.state = search rules in
    let it = c.in-Ok-rebase.ensures in
    (begun_at {log = c.rebase.new.log} same c.in-Ok.store.sound c.in-Ok.ensures.state c.in-Ok.ensures.own it.rows it.back
    it.number it.next it.peak it.past it.steps).1

pub returns-in-Ok-rebase-clause-begun : goal.returns-in-Ok-rebase-clause-begun
returns-in-Ok-rebase-clause-begun g c =
    let same : c.replace.new.dest.state ≡ c.in-Ok.store.state = search rules in
    let it = c.in-Ok-rebase.ensures in
    (begun_at {log = c.rebase.new.log} same c.in-Ok.store.sound c.in-Ok.ensures.state c.in-Ok.ensures.own it.rows it.back
    it.number it.next it.peak it.past it.steps).0

pub returns-in-Ok-rebase-clause-trims : goal.returns-in-Ok-rebase-clause-trims
returns-in-Ok-rebase-clause-trims g c =
    subst (λ (s : SharedState g.row.T.Denot). Trims s.base s.history c.rebase.new.log.bases.base)
    c.self.view_is c.in-Ok-rebase.ensures.trims

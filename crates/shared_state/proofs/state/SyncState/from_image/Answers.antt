use Rattle.shared_state.proofs.{none_trimmed, SharedState, subst, Trims}
use Rattle.shared_state.proofs.state.SyncState.from_image.Goals as goal

pub returns-in-Ok-begin_from-clause-trimmed : goal.returns-in-Ok-begin_from-clause-trimmed
returns-in-Ok-begin_from-clause-trimmed g c =
    none_trimmed g.row.NUMBER c.begin_from.new.self.base
    (subst (λ (s : SharedState g.row.T.Denot). Trims s.base s.history c.begin_from.new.self.base)
    c.in-Ok.ensures.fresh c.in-Ok-begin_from.ensures.trims)

use Rattle.reactive.proofs.{still_listens, sym, ◌∙◌}
use Rattle.reactive.proofs.reactive.Reactive.is_heard.Goals as goal

pub returns : goal.returns
returns g c = λ is. rw (← c.self.view_is)
    (still_listens g.T.Value.is_same _ _ _ c.self.invariant.kept c.args.slot (λ e at. sym c.is_clean.ensures ∙ is))

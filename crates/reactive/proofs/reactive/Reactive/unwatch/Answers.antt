use Rattle.reactive.proofs.{ap, get_or-set_other, get_or-set_same, kept_gone, None, none-some, sym, watched_low, ◌∙◌}
use Rattle.reactive.specs.Hearing.{named_key}
use Rattle.reactive.proofs.reactive.Reactive.unwatch.Goals as goal

pub invariant_of-self : goal.invariant_of-self
invariant_of-self g c = record { kept = rw c.remove.ensures (kept_gone _ _ _ c.self.invariant.kept c.args.key.id.slot); blamed = c.self.invariant.blamed }

pub returns-then-is_watched-clause-gone : goal.returns-then-is_watched-clause-gone
returns-then-is_watched-clause-gone g c = λ is.
    let rows = c.self.inside.effects.rows.items in
    let low = watched_low rows c.args.key.id.slot c.args.key
    (rw (← c.self.view_is) at (c.is_watched.ensures.yes c.if-is_watched.true)) in
    none-some _ (sym (ap named_key (get_or-set_same rows c.args.key.id.slot _ None low ∙ c.remove.ensures)) ∙ is)

pub returns-then-is_watched-clause-others : goal.returns-then-is_watched-clause-others
returns-then-is_watched-clause-others g c = λ s other. rw (← c.self.view_is)
    (get_or-set_other c.self.inside.effects.rows.items c.args.key.id.slot s _ None other)

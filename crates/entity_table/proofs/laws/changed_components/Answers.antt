use Rattle.entity_table.proofs.{ap, changed_at, changed_back, is_some, listed_every, listed_shown, no_value, same_component, sym, true≢false, ◌∙◌}
use Rattle.handles.specs.Visits.{CalledOn}
use Rattle.entity_table.proofs.laws.changed_components.Goals as goal

pub returns-clause-each : goal.returns-clause-each
returns-clause-each g c f last old new so e x is =
    let at = listed_every old e x is in
    let done = changed_at (CalledOn g.F.FnMut) so at.0 at.1 x at.2 in (
      done.0,
      done.1,
      at.1,
      done.2,
      at.3,
      done.3,
      same_component new e at.1 (sym at.3) ∙ listed_shown new at.0 at.1 done.2 done.4,
    )

pub returns-clause-none : goal.returns-clause-none
returns-clause-none g c f last old new so e is = no_value _ (λ d seen.
    let at = listed_every new e d seen in
    let was = changed_back (CalledOn g.F.FnMut) so at.0 at.1 d at.2 in
    true≢false (ap is_some (sym (listed_shown old at.0 at.1 was.0 was.1) ∙ (same_component old at.1 e at.3 ∙ is))))

use Rattle.entity_table.proofs.{both_every, both_shown, changed_at, same_component, sym, ◌∙◌}
use Rattle.handles.specs.Visits.{CalledOnBoth}
use Rattle.entity_table.proofs.laws.changed_pairs.Goals as goal

pub returns : goal.returns
returns g c f last old new was is so e x y one two =
    let at = both_every old was e x y one two in
    let done = changed_at (CalledOnBoth g.F.FnMut) so at.0 at.1 (x, y) at.2 in
    let shown = both_shown new is at.0 at.1 done.2.0 done.2.1 done.4 in (
      done.0,
      done.1,
      at.1,
      done.2,
      at.3,
      done.3,
      same_component new e at.1 (sym at.3) ∙ shown.0,
      same_component is e at.1 (sym at.3) ∙ shown.1,
    )

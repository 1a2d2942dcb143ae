use Rattle.std.proofs.Common.{ap, length, sym, ◌∙◌}
use Rattle.handles.proofs.Maps.{listed_count}
use Rattle.handles.proofs.walk.HandleIterExactSizeIterator.len.Goals as goal

pub returns-clause-value : goal.returns-clause-value
returns-clause-value g c =
    c.self.invariant.0 ∙ (sym (listed_count g.row.T.Denot g.row.K.Denot c.self.inside.number c.self.inside.slot c.self.inside.rows.now)
    ∙ ap length c.self.view_is)

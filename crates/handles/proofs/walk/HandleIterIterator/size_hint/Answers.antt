use Rattle.std.proofs.Common.{ap, arith, length, Some, sym, ◌∙◌}
use Rattle.handles.proofs.Maps.{listed_count}
use Rattle.handles.proofs.walk.HandleIterIterator.size_hint.Goals as goal

pub returns-clause-lower : goal.returns-clause-lower
returns-clause-lower g c _ =
    let all = listed_count g.row.T.Denot g.row.K.Denot c.self.inside.number c.self.inside.slot c.self.inside.rows.now in
    omega (arith, all, ap length c.self.view_is, c.self.invariant)

pub returns-clause-upper : goal.returns-clause-upper
returns-clause-upper g c =
    let all = listed_count g.row.T.Denot g.row.K.Denot c.self.inside.number c.self.inside.slot c.self.inside.rows.now in
    (tt, omega (arith, all, ap length c.self.view_is, c.self.invariant))

pub returns-clause-exact : goal.returns-clause-exact
returns-clause-exact g c =
    let same = c.self.invariant.0 ∙ (sym (listed_count g.row.T.Denot g.row.K.Denot c.self.inside.number c.self.inside.slot c.self.inside.rows.now)
    ∙ ap length c.self.view_is) in
    λ j. (same j, Some (same j))

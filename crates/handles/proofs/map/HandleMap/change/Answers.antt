use Rattle.std.proofs.Common.{arith, length, ◌<◌}
use Rattle.handles.proofs.Maps.{kept, one_changed, value_within}
use Rattle.handles.proofs.map.HandleMap.change.Goals as goal

pub invariant_of-self : goal.invariant_of-self
invariant_of-self g c =
    let lt : c.args.handle.slot < length c.self.inside.rows.items =
    rw (← c.self.view_is) at (value_within c.args.self.now c.args.handle (grind arith)) in
    kept c.self.inside.rows.items _ _ _ _ lt c.index_mut.ensures.value c.self.invariant
    (one_changed c.change.result _ _ _ _ _ c.change.ensures.changed c.change.ensures.none)

use Rattle.std.proofs.Common.{ap, arith, length, sym, ◌∙◌, ◌<◌}
use Rattle.handles.proofs.Maps.{one, one_held, some_live, taken, value_within}
use Rattle.handles.proofs.map.HandleMap.take.Goals as goal

pub overflow_sub-self : goal.overflow_sub-self
overflow_sub-self g c =
    let lt : c.args.handle.slot < length c.self.inside.rows.items =
    rw (← c.self.view_is) at (value_within c.args.self.now c.args.handle (grind arith)) in
    some_live c.self.inside.rows.items _ _ _ lt c.index_mut.ensures.value c.self.invariant.0
    (ap one (sym c.replace.ensures.value ∙ c.in-Held.is) ∙ one_held _ _ _)

pub invariant_of-self : goal.invariant_of-self
invariant_of-self g c =
    let lt : c.args.handle.slot < length c.self.inside.rows.items =
    rw (← c.self.view_is) at (value_within c.args.self.now c.args.handle (grind arith)) in
    taken c.self.inside.rows.items _ _ _ _ lt c.index_mut.ensures.value c.self.invariant
    (ap one (sym c.replace.ensures.value ∙ c.in-Held.is) ∙ one_held _ _ _) c.replace.ensures.after

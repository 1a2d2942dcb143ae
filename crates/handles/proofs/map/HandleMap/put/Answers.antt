use Rattle.std.proofs.Common.{ap, arith, sym, ◌∙◌, ◌<◌, length}
use Rattle.handles.proofs.Maps.{added, count_most, kept, one, one_held}
use Rattle.handles.proofs.map.HandleMap.put.Goals as goal

pub overflow_add-self : goal.overflow_add-self
overflow_add-self g c = grind (arith, count_most c.self.inside.rows.items)

pub invariant_of-self : goal.invariant_of-self
invariant_of-self g c =
    let lt : c.args.handle.slot < length c.self.inside.rows.items = rw (← c.self.view_is) at c.requires in
    added c.self.inside.rows.items _ _ _ _ lt c.index_mut.ensures.value c.self.invariant
    (sym c.replace.ensures.value ∙ c.in-Vacant.is) (ap one c.replace.ensures.after ∙ one_held _ _ _)

pub invariant_of-self-in-Held : goal.invariant_of-self-in-Held
invariant_of-self-in-Held g c =
    let lt : c.args.handle.slot < length c.self.inside.rows.items = rw (← c.self.view_is) at c.requires in
    kept c.self.inside.rows.items _ _ _ _ lt c.index_mut.ensures.value c.self.invariant
    ((ap one (sym c.replace.ensures.value ∙ c.in-Held.is) ∙ one_held _ _ _)
    ∙ sym (ap one c.replace.ensures.after ∙ one_held _ _ _))

use Rattle.entity_table.proofs.{ap, is_some, kept_set, pointer_in, quiet_sees, refl, same_id_sees}
use Rattle.entity_table.proofs.{set_others, sets, sym, ◌∙◌}
use Rattle.entity_table.proofs.table.EntityTable.set.Goals as goal

pub replace_value-requires : goal.replace_value-requires
replace_value-requires g c =
    let live = rw (← c.self.view_is) at (sym c.is_alive.ensures ∙ c.if-not-is_alive.false) in
    quiet_sees _ c.self.invariant.simple.unborrowed c.pointer_to.result (g.met.S.AnyStorage.sound _)
    ∙ (ap is_some (same_id_sees _ c.pointer_to.result (pointer_in c.args.entity) c.pointer_to.ensures) ∙ live)

pub invariant_of-self : goal.invariant_of-self
invariant_of-self g c = kept_set (g.met.S.AnyStorage.sound _) c.self.invariant c.pointer_to.result _ _ c.replace_value.ensures

pub returns-clause-shown : goal.returns-clause-shown
returns-clause-shown g c = sym (same_id_sees _ c.pointer_to.result (pointer_in c.args.entity) c.pointer_to.ensures)
    ∙ (sets c.pointer_to.result _ _ c.replace_value.ensures).2 c.pointer_to.result refl

pub returns-clause-others : goal.returns-clause-others
returns-clause-others g c f other = rw (← c.self.view_is) (set_others (g.met.S.AnyStorage.sound _) c.self.invariant.simple.plain
    c.pointer_to.result (pointer_in f) _ _ c.replace_value.ensures (λ same. other (sym c.pointer_to.ensures ∙ same)))

use Rattle.session_table.proofs.{ap, is_some, pointer_in, quiet_sees, refl, same_id_sees, set_beside, set_kept, sets, sym, ◌∙◌}
use Rattle.session_table.proofs.table.SessionTable.replace.Goals as goal

pub replace_value-requires : goal.replace_value-requires
replace_value-requires g c =
    quiet_sees _ c.self.invariant.0.simple.unborrowed c.pointer_to.result (g.met.S.AnyStorage.sound _)
    ∙ (ap is_some (same_id_sees _ c.pointer_to.result (pointer_in c.args.entry) c.pointer_to.ensures)
    ∙ rw (← c.self.view_is) at (sym c.shows.ensures ∙ c.if-not-shows.false))

pub invariant_of-self : goal.invariant_of-self
invariant_of-self g c =
    (set_kept _ _ c.self.invariant.0 (g.met.S.AnyStorage.sound _) c.pointer_to.result _ _ c.replace_value.ensures, c.self.invariant.1)

pub returns-clause-shown : goal.returns-clause-shown
returns-clause-shown g c = sym (same_id_sees _ c.pointer_to.result (pointer_in c.args.entry) c.pointer_to.ensures)
    ∙ (sets c.pointer_to.result _ _ c.replace_value.ensures).2 c.pointer_to.result refl

pub returns-clause-others : goal.returns-clause-others
returns-clause-others g c f other = rw (← c.self.view_is) (set_beside (g.met.S.AnyStorage.sound _)
    c.self.invariant.0.simple.plain c.pointer_to.result (pointer_in f) _ _ c.replace_value.ensures
    (λ same. other (sym c.pointer_to.ensures ∙ same)))

pub returns-clause-taken : goal.returns-clause-taken
returns-clause-taken g c = rw (← c.self.view_is) (sym (same_id_sees _ c.pointer_to.result (pointer_in c.args.entry) c.pointer_to.ensures)
    ∙ (sets c.pointer_to.result _ _ c.replace_value.ensures).0)

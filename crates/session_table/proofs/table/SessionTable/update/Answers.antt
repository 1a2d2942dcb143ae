use Rattle.session_table.proofs.{ap, is_some, pointer_in, quiet_sees, refl, same_id_sees, set_beside, set_kept, sets, sym, ◌∙◌}
use Rattle.session_table.proofs.table.SessionTable.update.Goals as goal

pub change_value-requires-clause-free : goal.change_value-requires-clause-free
change_value-requires-clause-free g c =
    quiet_sees _ c.self.invariant.0.simple.unborrowed c.pointer_to.result (g.met.S.AnyStorage.sound _)
    ∙ (ap is_some (same_id_sees _ c.pointer_to.result (pointer_in c.args.entry) c.pointer_to.ensures)
    ∙ rw (← c.self.view_is) at (sym c.shows.ensures ∙ c.if-not-shows.false))

pub change_value-requires-clause-callable : goal.change_value-requires-clause-callable
change_value-requires-clause-callable g c value sees =
    (rw (← c.self.view_is) at c.requires) value
    (sym (same_id_sees _ c.pointer_to.result (pointer_in c.args.entry) c.pointer_to.ensures) ∙ sees)

pub invariant_of-self : goal.invariant_of-self
invariant_of-self g c =
    (set_kept _ _ c.self.invariant.0 (g.met.S.AnyStorage.sound _) c.pointer_to.result _ _ c.change_value.ensures.set, c.self.invariant.1)

pub returns-clause-changed : goal.returns-clause-changed
returns-clause-changed g c =
    let done = c.change_value.ensures in
    let set = sets c.pointer_to.result _ _ done.set in
    let id = c.pointer_to.ensures in
    rw (← c.self.view_is) (
      done.old,
      done.new,
      sym (same_id_sees _ c.pointer_to.result (pointer_in c.args.entry) id) ∙ set.0,
      done.called,
      sym (same_id_sees _ c.pointer_to.result (pointer_in c.args.entry) id) ∙ set.2 c.pointer_to.result refl,
    )

pub returns-clause-others : goal.returns-clause-others
returns-clause-others g c e other = rw (← c.self.view_is) (set_beside (g.met.S.AnyStorage.sound _)
    c.self.invariant.0.simple.plain c.pointer_to.result (pointer_in e) _ _ c.change_value.ensures.set
    (λ same. other (sym c.pointer_to.ensures ∙ same)))

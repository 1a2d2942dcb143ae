-- Whether a borrow is in the way of the end of a list of names.
use Rattle.store_slots.proofs.{arith, hindrance_is, state_is, sym, true, unborrowed_free, ◌∙◌}
use Rattle.store_slots.proofs.slots.Slots.may_end_all.Goals as goal

pub returns-then-are_unborrowed_values : goal.returns-then-are_unborrowed_values
returns-then-are_unborrowed_values g c =
    rw (unborrowed_free _ c.self.view_is _ (sym c.are_unborrowed_values.ensures
    ∙ c.if-are_unborrowed_values.true) c.requires.linked) c.if-are_unborrowed_values.true

pub returns-else-are_unborrowed_values : goal.returns-else-are_unborrowed_values
returns-else-are_unborrowed_values g c = grind (arith, hindrance_is, state_is c.self.view_is)

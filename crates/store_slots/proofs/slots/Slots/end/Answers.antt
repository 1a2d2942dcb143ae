-- The end of a name, unless a borrow is in the way.
use Rattle.store_slots.proofs.{free_told, name_of_cell, ◌∙◌}
use Rattle.store_slots.proofs.slots.Slots.end.Goals as goal

pub remove-requires : goal.remove-requires
remove-requires g c =
    let f = free_told _ c.self.view_is (name_of_cell c.args.name) c.requires
    c.has_unborrowed_value.ensures c.if-has_unborrowed_value.true in
    record { there = f.there; named = f.named; alone = λ _. f.alone }

pub returns-then-has_unborrowed_value : goal.returns-then-has_unborrowed_value
returns-then-has_unborrowed_value g c =
    let f = free_told _ c.self.view_is (name_of_cell c.args.name) c.requires
    c.has_unborrowed_value.ensures c.if-has_unborrowed_value.true in
    (f.hinders, c.remove.ensures ∙ f.closes)

use Rattle.store_slots.proofs.{held_told, name_of_cell, not_told}
use Rattle.store_slots.proofs.slots.Slots.open.Goals as goal

pub returns-then-holds : goal.returns-then-holds
returns-then-holds g c =
    let f = held_told c.self.view_is c.if-holds.ensures in rw f.seen (rw f.there at c.open.ensures)

pub returns : goal.returns
returns g c = rw (not_told _ c.self.view_is (name_of_cell c.args.name) c.if-holds.ensures)

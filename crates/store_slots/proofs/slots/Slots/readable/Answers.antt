use Rattle.store_slots.proofs.{arith, cell_seen, name_of_cell}
use Rattle.store_slots.proofs.slots.Slots.readable.Goals as goal

pub returns-then-has_unborrowed_value : goal.returns-then-has_unborrowed_value
returns-then-has_unborrowed_value g c =
    let seen = cell_seen _ c.self.view_is (name_of_cell c.args.name) in
    (grind arith, grind arith, λ alone. grind arith)

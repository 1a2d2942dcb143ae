use Rattle.store_slots.proofs.{arith, cell_seen, name_of_cell}
use Rattle.store_slots.proofs.slots.Slots.find.Goals as goal

pub created_at-requires : goal.created_at-requires
created_at-requires g c = grind (arith, cell_seen _ c.self.view_is (name_of_cell c.args.name))

pub returns-then-not-is_boxed : goal.returns-then-not-is_boxed
returns-then-not-is_boxed g c = grind (arith, cell_seen _ c.self.view_is (name_of_cell c.args.name))

pub returns : goal.returns
returns g c = grind (arith, cell_seen _ c.self.view_is (name_of_cell c.args.name))

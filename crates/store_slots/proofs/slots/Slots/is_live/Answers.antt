use Rattle.store_slots.proofs.{arith, name_of_cell, reached_seen}
use Rattle.store_slots.proofs.slots.Slots.is_live.Goals as goal

pub returns : goal.returns
returns g c =
    let told = reached_seen _ c.self.view_is (name_of_cell c.args.name) c.reach.ensures in
    grind arith

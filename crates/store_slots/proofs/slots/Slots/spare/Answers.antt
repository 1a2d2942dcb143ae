use Rattle.store_slots.proofs.{arith, free_seen, state_is}
use Rattle.store_slots.proofs.slots.Slots.spare.Goals as goal

pub returns-clause-free : goal.returns-clause-free
returns-clause-free g c =
    let free = free_seen c.self.invariant.0 (state_is c.self.view_is) in
    omega (arith, c.free.ensures)

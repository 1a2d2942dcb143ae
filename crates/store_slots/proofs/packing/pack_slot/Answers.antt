-- A slot that is unchanged is packed already.
use Rattle.store_slots.proofs.{arith, stayed}
use Rattle.store_slots.proofs.packing.pack_slot.Goals as goal

pub returns-then-stays : goal.returns-then-stays
returns-then-stays g c =
    stayed _ _ _ _ _ _ c.requires.within (omega (arith, c.if-slot-len.true, c.len.ensures))
    c.slot.ensures c.requires.past c.if-stays.ensures

-- A slot that is packed describes its cell.
use Rattle.store_slots.proofs.{renewed_by, small_of}
use Rattle.store_slots.proofs.packing.put_small.Goals as goal

pub returns-clause-renewed : goal.returns-clause-renewed
returns-clause-renewed g c =
    renewed_by c.args.entries.now.slots c.args.slots.now c.put.new.self c.put.result c.args.slot
    (c.unwrap_or-packed.result, c.details.result.created_at) c.requires.next
    (rw c.unwrap_or-packed.ensures (small_of c.args.entries.now.slots c.args.slot c.small_slot.result
    c.details.result.created_at c.requires.within c.details.ensures.created c.small_slot.ensures))
    c.put.ensures.here c.put.ensures.rest

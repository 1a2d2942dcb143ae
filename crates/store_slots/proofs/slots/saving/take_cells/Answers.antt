use Rattle.std.proofs.Common.{arith, length, ◌≡◌, ◌∙◌, ◌<◌}
use Rattle.std.proofs.lemmas.List.{take_all}
use Rattle.store_slots.proofs.saving.{both_there, images_step}
use Rattle.store_slots.proofs.slots.saving.take_cells.Goals as goal

pub take_cell-cell-requires-clause-free : goal.take_cell-cell-requires-clause-free
take_cell-cell-requires-clause-free g c =
    let same = c.loop-slot.invariant.rest c.loop-slot.slot (omega arith) in
    both_there _ _ _ c.generation-generation.ensures
    (rw same (c.requires.free c.loop-slot.slot))

pub loop-slot-preserved : goal.loop-slot-preserved
loop-slot-preserved g c =
    let i = c.loop-slot.invariant in
    let within : c.loop-slot.slot < length c.args.entries.slots = omega arith in
    let same = i.rest c.loop-slot.slot (omega arith) in
    let gen = rw same at c.generation-generation.ensures in
    let cell = rw same at c.take_cell-cell.ensures.image in
    record {
      images = rw c.push_reserved.ensures.items (images_step (λ v w. w ≡ v) c.args.entries.slots
          c.loop-slot.slot c.loop-slot.images.items _ within i.images gen cell);
      many = omega (arith, c.push_reserved.ensures.len, i.many);
      rest = λ k after. c.take_cell-cell.ensures.others k (omega arith) ∙ i.rest k (omega arith);
      long = c.take_cell-cell.ensures.long ∙ i.long;
      room = omega (arith, c.push_reserved.ensures.capacity, i.room);
    }

pub returns : goal.returns
returns g c =
    let i = c.loop-slot.invariant in
    rw (take_all c.loop-slot.slot c.args.entries.slots (omega (arith, i.long))) at i.images

use Rattle.std.proofs.Common.{arith, ap, length, refl, sym, ◌≡◌, ◌∙◌, ◌+◌, ◌∷◌, []}
use Rattle.std.proofs.Common.{map as list_map}
use Rattle.std.proofs.lemmas.List.{length-append, take_all}
use Rattle.store_slots.proofs.loading.{mapped_more, pooled_more, pooled_none, unpooled}
use Rattle.store_slots.specs.ImageSlots.{slot_told}
use Rattle.store_slots.proofs.slots.loading.push_all.Goals as goal
use Rattle.store_slots.proofs.slots.loading.push_all.Goals.{then-push_slot, else-push_slot}

pub loop-slot-init : goal.loop-slot-init
loop-slot-init g c = record {
  slots = c.requires.none;
  many = ap length c.requires.none;
  pooled = rw c.requires.none (pooled_none _ c.requires.free);
  rest = λ k after. refl;
  long = refl;
  rooms = refl;
  pool = refl;
  few = omega arith;
}

pub push_slot-requires-clause-room : goal.push_slot-requires-clause-room
push_slot-requires-clause-room g c =
    let i = c.loop-slot.invariant in
    omega (arith, i.many, i.rooms, c.requires.room, c.loop-slot-test.true, c.len-slot-end.ensures)

pub push_slot-requires-clause-pool : goal.push_slot-requires-clause-pool
push_slot-requires-clause-pool g c =
    let i = c.loop-slot.invariant in
    omega (arith, i.many, i.pool, c.requires.pool, c.loop-slot-test.true, c.len-slot-end.ensures)

pub push_slot-requires-clause-small : goal.push_slot-requires-clause-small
push_slot-requires-clause-small g c =
    let i = c.loop-slot.invariant in
    let there = sym (i.rest c.loop-slot.slot (omega arith)) ∙ c.take_image-image.ensures.taken in
    rw there at (c.requires.small c.loop-slot.slot)

pub push_slot-requires-clause-pooled : goal.push_slot-requires-clause-pooled
push_slot-requires-clause-pooled g c =
    unpooled c.loop-slot.entries.slots (slot_told c.take_image-image.result) _ _ c.loop-slot.invariant.pooled

pub loop-slot-preserved : goal.loop-slot-preserved
loop-slot-preserved g c =
    let i = c.loop-slot.invariant in
    let put = c.push_slot.ensures in
    let there = sym (i.rest c.loop-slot.slot (omega arith)) ∙ c.take_image-image.ensures.taken in
    let all = mapped_more slot_told c.args.slots.items c.loop-slot.slot c.take_image-image.result there in
    let long = ap length put.pushed ∙ length-append c.loop-slot.entries.slots (slot_told c.take_image-image.result ∷ []) in
    let next = pooled_more c.loop-slot.entries.slots (slot_told c.take_image-image.result) _ _ i.pooled _ _ put.retired put.free in
    let none : c.loop-slot.retired + 0 ≡ c.loop-slot.retired = omega arith in
    record {
      slots = put.pushed ∙ rw (all, i.slots) refl;
      many = omega (arith, long, i.many);
      pooled = elim c.if-push_slot.branch [
        | then-push_slot w ↦ rw (put.pushed, w.retired-is) (rw w.if-push_slot.true at next)
        | else-push_slot w ↦ rw (put.pushed, w.retired-is) (rw (w.if-push_slot.false, none) at next)
      ];
      rest = λ k after. c.take_image-image.ensures.rest k (omega arith) ∙ i.rest k (omega arith);
      long = c.take_image-image.ensures.long ∙ i.long;
      rooms = put.rooms ∙ i.rooms;
      pool = put.pool ∙ i.pool;
      few = elim c.if-push_slot.branch [
        | then-push_slot w ↦ omega (arith, w.retired-is, i.few)
        | else-push_slot w ↦ omega (arith, w.retired-is, i.few)
      ];
    }

pub returns-clause-slots : goal.returns-clause-slots
returns-clause-slots g c =
    let i = c.loop-slot.invariant in
    i.slots ∙ ap (λ xs. list_map slot_told xs) (take_all c.loop-slot.slot c.args.slots.items
    (omega (arith, c.loop-slot-test.false, c.len-slot-end.ensures)))

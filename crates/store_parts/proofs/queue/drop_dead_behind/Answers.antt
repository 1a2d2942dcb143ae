use Rattle.store_parts.proofs.{ap, arith, popped, Some, sym, ◌∙◌}
use Rattle.store_parts.proofs.queue.drop_dead_behind.Goals as goal

pub loop-seat-preserved : goal.loop-seat-preserved
loop-seat-preserved c =
    let last = c.in-Some.seat.now in
    let gone = c.pop_back.ensures.value last (grind (arith, c.in-Some.ensures.variant)) in
    let stands = popped _ _ _ last c.pop_back.ensures.items
    (gone ∙ ap Some (sym c.in-Some.ensures.lookup)) c.if-seat.false c.loop-seat.invariant.1
    c.loop-seat.invariant.2 in
    (stands.0 ∙ c.loop-seat.invariant.0, stands.1, stands.2)

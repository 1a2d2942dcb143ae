use Rattle.generational_box.proofs.{counted_empty, fresh_bounded, fresh_sound}
use Rattle.generational_box.proofs.unsync.Store.new_at.Goals as goal

pub invariant_of-result : goal.invariant_of-result
invariant_of-result g c =
    rw (c.new.ensures.state, c.new-2.ensures) (fresh_sound _ _ _, (fresh_bounded _ _ _, tt))

pub invariant_of-result-2 : goal.invariant_of-result-2
invariant_of-result-2 g c = rw c.new-2.ensures (counted_empty c.args.numbers.ticket)

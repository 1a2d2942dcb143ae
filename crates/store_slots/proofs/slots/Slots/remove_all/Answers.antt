-- Values without borrows that are removed one after the other.
use Rattle.store_slots.proofs.{at_drop_all, at_drop_more, CellName, free_first, free_rest, left_none, List}
use Rattle.store_slots.proofs.slots.Slots.remove_all.Goals as goal

abbrev none : CellName
none = record { slot = 0; generation = 0 }

pub remove-requires : goal.remove-requires
remove-requires g c =
    let f = free_first (rw (at_drop_more (λ (xs : List CellName). xs) c.args.names.now
    c.loop-name.name-index none c.loop-name-test.true) at c.loop-name.invariant) in
    record { there = f.there; named = f.named; alone = λ is. f.alone }

pub loop-name-preserved : goal.loop-name-preserved
loop-name-preserved g c =
    rw c.remove.ensures (free_rest (rw (at_drop_more (λ (xs : List CellName). xs) c.args.names.now
    c.loop-name.name-index none c.loop-name-test.true) at c.loop-name.invariant))

pub returns : goal.returns
returns g c = left_none (rw (at_drop_all (λ (xs : List CellName). xs) c.args.names.now
    c.loop-name.name-index c.loop-name-test.false) at c.loop-name.invariant).left

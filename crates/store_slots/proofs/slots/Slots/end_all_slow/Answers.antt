-- The end of a list of names.
use Rattle.store_slots.proofs.{arith, at_drop_all, at_drop_more, CellName, hindrance_is, left_none, left_rest, List}
use Rattle.store_slots.proofs.{state_is}
use Rattle.store_slots.proofs.slots.Slots.end_all_slow.Goals as goal

abbrev none : CellName
none = record { slot = 0; generation = 0 }

pub returns-in-Err : goal.returns-in-Err
returns-in-Err g c = grind (arith, state_is c.self.view_is, hindrance_is)

pub loop-name-preserved : goal.loop-name-preserved
loop-name-preserved g c =
    rw c.close.ensures (left_rest (rw (at_drop_more (λ (xs : List CellName). xs) c.args.names.now
    c.loop-name.name-index none c.loop-name-test.true) at c.loop-name.invariant))

pub returns : goal.returns
returns g c = (
  grind (arith, state_is c.self.view_is, hindrance_is),
  left_none (rw (at_drop_all (λ (xs : List CellName). xs) c.args.names.now c.loop-name.name-index
      c.loop-name-test.false) at c.loop-name.invariant),
)

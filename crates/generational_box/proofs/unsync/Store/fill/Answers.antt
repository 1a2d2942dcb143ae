use Rattle.std.proofs.Common.{subst, sym}
use Rattle.std.specs.FinMap as map
use Rattle.generational_core.specs.State.{IsSound}
use Rattle.store_slots.proofs.telling.{whole_sound}
use Rattle.generational_box.proofs.{counted_empty}
use Rattle.generational_box.proofs.unsync.Store.fill.Goals as goal

pub invariant_of-result : goal.invariant_of-result
invariant_of-result g c =
    let i = c.args.image in
    rw c.new.ensures (
      subst IsSound (sym c.fill-slots.ensures) (whole_sound i c.requires.whole),
      (c.are_bounded.ensures i.number i.next map.empty, tt),
    )

pub invariant_of-result-2 : goal.invariant_of-result-2
invariant_of-result-2 g c = rw c.new.ensures (counted_empty c.args.image.next)

pub returns : goal.returns
returns g c = rw c.new.ensures c.fill-slots.ensures

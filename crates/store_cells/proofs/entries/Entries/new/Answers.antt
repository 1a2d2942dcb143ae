-- A store's first slots: there are none.
use Rattle.store_cells.proofs.{ap, arith, entries_from, indexed_none, length, noted_none, refl}
use Rattle.store_cells.proofs.entries.Entries.new.Goals as goal

pub invariant_of-result : goal.invariant_of-result
invariant_of-result g c =
    let none = ap length c.new.ensures.items in let made = ap length c.new-2.ensures.items in (
      indexed_none c.new.ensures.items c.new-3.ensures.lists c.new-3.ensures.free,
      noted_none c.new.ensures.items c.nobody.ensures,
      omega arith,
      omega arith,
    )

pub returns : goal.returns
unfolding entries_from
returns g c = rw c.new.ensures.items refl

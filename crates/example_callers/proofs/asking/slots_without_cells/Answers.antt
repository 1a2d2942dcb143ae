use Rattle.example_callers.proofs.{arith, slots_are}
use Rattle.example_callers.proofs.asking.slots_without_cells.Goals as goal

pub overflow_sub-result : goal.overflow_sub-result
overflow_sub-result g c =
    let all = slots_are _ (g.met.S.AnyStorage.sound c.args.store.now)
    (g.met.S.AnyStorage.bounded c.args.store.now) in
    omega (arith, all, c.len.ensures, c.slots.ensures.count)

pub returns : goal.returns
returns g c =
    let all = slots_are _ (g.met.S.AnyStorage.sound c.args.store.now)
    (g.met.S.AnyStorage.bounded c.args.store.now) in
    omega (arith, all, c.len.ensures, c.slots.ensures.count)

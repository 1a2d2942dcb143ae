use Rattle.generational_box.proofs.{arith}
use Rattle.generational_core.proofs.machine.{slots_are}
use Rattle.generational_box.proofs.unsync.StoreAnyStorage.len.Goals as goal

pub overflow_sub-result : goal.overflow_sub-result
overflow_sub-result g c =
    omega (arith, c.counts-counts.ensures, slots_are _ c.self.inside.sound c.self.inside.bounded)

pub overflow_sub-result-2 : goal.overflow_sub-result-2
overflow_sub-result-2 g c =
    omega (arith, c.counts-counts.ensures, slots_are _ c.self.inside.sound c.self.inside.bounded)

pub returns : goal.returns
returns g c = rw (← c.self.view_is)
    (omega (arith, c.counts-counts.ensures, slots_are _ c.self.inside.sound c.self.inside.bounded))

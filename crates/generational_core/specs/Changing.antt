-- A change of a value in place.
use Rattle.std.specs.Borrow.{MutBor}
use Rattle.std.specs.Fn.{Once, FnOnceReturnsAtMut}
use Rattle.generational_core.specs.declared.boxes.GenerationalPointer.{GenerationalPointer}
use Rattle.generational_core.specs.State.{State}
use Rattle.generational_core.specs.Machine.Action.{SetValue}
use Rattle.generational_core.specs.Machine.Answer.{Old}
use Rattle.generational_core.specs.Steps.{Meets}

-- A closure f is called on the value that a box reaches, and returns r; what it leaves there replaces the
-- value.
pub record Changes {F T R : Type 0} (g : Once F (MutBor T × Unit {0}) (R × (MutBor T × Unit {0})))
    (f : F) (S : State T) (b : GenerationalPointer) (r : R) (after : State T) : Type 0 where
  pub old : T
  pub new : T
  pub called : FnOnceReturnsAtMut g f old r new
  pub set : Meets S (SetValue b new) (Old old) after

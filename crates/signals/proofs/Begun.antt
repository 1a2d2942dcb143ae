-- A write that begins wasn't hindered.
use Rattle.std.proofs.Common.{◌≡◌, arith, true}
use Rattle.generational_core.specs.Borrowing.{Guard, can_write}
use Rattle.generational_core.specs.Machine.Action.{Write}
use Rattle.generational_core.specs.Machine.Answer.{Writes}
use Rattle.generational_core.specs.State.{State}
use Rattle.generational_core.specs.Steps.{Meets}
use Rattle.generational_core.specs.declared.boxes.GenerationalPointer.{GenerationalPointer}
use Rattle.generational_errors.specs.declared.error.Location.{Location}

module _ {T : Type 0} where
  pub begun_free : {S R : State T} (b : GenerationalPointer) (l : Location) (g : Guard) (v : T)
      → Meets S (Write b l) (Writes g v) R → can_write S b ≡ true
  begun_free b l g v m = grind arith

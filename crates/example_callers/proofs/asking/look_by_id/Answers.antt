use Rattle.example_callers.proofs.{arith, box_with, found_sees, GenerationalBoxId, GenerationalPointer}
use Rattle.example_callers.proofs.{IfSome, Option, Some, State, value_in, ◌∙◌, ◌≡◌}
use Rattle.example_callers.proofs.asking.look_by_id.Goals as goal

shown : {T : Type 0} (S : State T) (id : GenerationalBoxId) (b : GenerationalPointer)
    → Some b ≡ box_with S id → (o : Option T) → o ≡ value_in S b
    → IfSome o (λ value. (kept : GenerationalPointer) → kept.id ≡ id → value_in S kept ≡ Some value)
shown S id b found o seen = let sees = found_sees S id b found in grind arith

pub returns : goal.returns
returns g c = shown _ _ _ c.in_ok-find.ensures _ (c.copied.ensures ∙ c.peek.ensures)

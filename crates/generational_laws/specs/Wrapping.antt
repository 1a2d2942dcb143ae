-- What a call returns whose box or owner is in the caller's struct. Each word takes first what finds the
-- box, or the owner, in the struct.
use Rattle.std.specs.Prelude.{Result, Ok, Err}
use Rattle.generational_core.specs.declared.boxes.GenerationalPointer.{GenerationalPointer}
use Rattle.generational_errors.specs.declared.error.Refusal.{Refusal}
use Rattle.generational_errors.specs.declared.error.StoreError.{StoreError}
use Rattle.generational_core.specs.Machine.{Answer, OwnerName}
use Rattle.generational_core.specs.Machine.Answer.{Made, Owned, Refused}

module _ {T W : Type 0} where
  -- a making of a value, and of an owner
  abbrev pub wrapped_answer : (W → GenerationalPointer) → Result W (Refusal T) → Answer T
  wrapped_answer box (Ok w) = Made (box w)
  wrapped_answer box (Err r) = Refused r.cause

  abbrev pub wrapped_owner_answer : (W → OwnerName) → Result W StoreError → Answer T
  wrapped_owner_answer owner (Ok w) = Owned (owner w)
  wrapped_owner_answer owner (Err e) = Refused e

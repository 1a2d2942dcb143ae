-- A step of the machine: the names that it may take, the end of tickets, and failed allocations.
use Rattle.generational_core.specs.Borrowing.{write_refusal, reach}
use Rattle.std.specs.Prelude.{is_some, ◌≡◌, ℕ, ◌-◌, ◌^◌, Bool, true, false, if◌then◌else◌, ◌&&◌}
use Rattle.std.specs.Prelude.{◌⊎◌, nat_eq, nat_lt, [], Option, None, Some}
use Rattle.generational_core.specs.Machine.{cell_at, Action, Answer, NewNames, Outcome, act, add_cell}
use Rattle.generational_core.specs.Cells.{content_of}
use Rattle.std.specs.FinSet as set
use Rattle.generational_errors.specs.declared.error.StoreError.{StoreError}
use Rattle.generational_errors.specs.declared.error.StoreError.TheVariants.{NumbersExhausted}
use Rattle.generational_errors.specs.declared.error.StoreError.TheVariants.{OutOfMemory, UnknownOwner}
use Rattle.generational_core.specs.Names.{Name}
use Rattle.generational_core.specs.Cells.Content.{Here}
use Rattle.generational_core.specs.Cells.Cell.{Shared}
use Rattle.generational_core.specs.State.{State}
use Rattle.generational_core.specs.Borrowing.BorrowRefusal.{BeingRead}
use Rattle.generational_core.specs.Machine.Action.{Make, MakeShared, Refer, NewOwner, Read}
use Rattle.generational_core.specs.Machine.Answer.{Made, Owned, Reads, Writes, BorrowRefused, Refused}
use Rattle.generational_core.specs.Slots.{Fits, free}

abbrev pub last_ticket : ℕ  -- the last number of all, which is never given as a ticket
last_ticket = 2 ^ 64 - 1

-- the error of a store that can't go on, which the machine alone doesn't have
abbrev pub want : StoreError → Option StoreError
want UnknownOwner = None
want e = Some e

abbrev pub no_names : NewNames  -- names for calls that take none
no_names =
    let none : Name = record { slot = 0; generation = 0 } in record { first = none; second = none }

module _ {T : Type 0} where
  -- a name that was never issued, and that fits
  pub record IsNew (S : State T) (n : Name) : Type 0 where
    pub ungiven : set.contains S.given n ≡ false
    pub fits : Fits S n

  -- the names that a making takes; a shared value's second name is new next to its first
  abbrev pub AreNew : State T → Action T → NewNames → Type 0
  AreNew S (Make o v l) f = IsNew S f.first
  AreNew S (MakeShared o v l) f =
      IsNew S f.first × IsNew (add_cell S f.first (Shared (Here v []) l)) f.second
  AreNew S (Refer o b) f = IsNew S f.first
  AreNew S _ f = Unit {0}

  -- names are needed only if the answer has a box
  abbrev pub Takes : State T → Action T → Answer T → NewNames → Type 0
  Takes S call (Made b) f = AreNew S call f
  Takes S call _ f = Unit {0}

  abbrev pub takes_ticket : Answer T → Bool  -- whether an answer gives a ticket
  takes_ticket (Owned o) = true
  takes_ticket (Reads g) = true
  takes_ticket (Writes g v) = true
  takes_ticket _ = false

  -- if the tickets are used up, a call that takes one fails, and changes nothing
  abbrev pub limit_tickets : State T → Outcome T → Outcome T
  limit_tickets S out =
      if takes_ticket out.0 && nat_eq S.next last_ticket then (Refused NumbersExhausted, S) else out

  abbrev pub answer_to : State T → Action T → Answer T  -- a call's answer, but for its names
  answer_to S call = (limit_tickets S (act S call no_names)).0

  -- whether a call with this answer may fail to allocate: a slot if too few are free, an owner's record
  -- or list, a reader next to another, an error's list of locations
  abbrev pub needs_memory : State T → Answer T → Action T → Bool
  needs_memory S (Made b) (Make None v l) = nat_eq (free S) 0
  needs_memory S (Made b) (MakeShared None v l) = nat_lt (free S) 2
  needs_memory S (Made b) (Refer None c) = nat_eq (free S) 0
  needs_memory S (Made b) call = true
  needs_memory S (Owned o) NewOwner = true
  needs_memory S (Reads g) (Read b l) =
      is_some (write_refusal (content_of (cell_at S (reach S b))))
  needs_memory S (BorrowRefused (BeingRead readers)) call = true
  needs_memory S _ call = false

  -- whether a call may fail to allocate; the kind of its answer doesn't depend on the names that it takes
  unfoldable pub may_lack : State T → Action T → Bool
  may_lack S call = needs_memory S (answer_to S call) call

  -- A call meets the machine if, for some new names, it answers and leaves what the machine does; or if
  -- an allocation fails that may, and then nothing changes.
  abbrev pub Meets : State T → Action T → Answer T → State T → Type 0
  Meets S call answer R =
      ((new : NewNames) × Takes S call answer new × ((answer, R) ≡ limit_tickets S (act S call new)))
      ⊎ ((may_lack S call ≡ true) × (answer ≡ Refused OutOfMemory) × (R ≡ S))

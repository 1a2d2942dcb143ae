-- What a store lacks when a call fails without a borrow.
use Rattle.std.specs.Prelude.{◌≡◌, ℕ, ◌+◌, ◌<◌, Some}
use Rattle.std.specs.FinMap as map
use Rattle.generational_core.specs.Boxes.{name_of}
use Rattle.generational_core.specs.Cells.Cell.{Ref}
use Rattle.generational_core.specs.Names.{Name}
use Rattle.generational_core.specs.Slots.{free}
use Rattle.generational_core.specs.State.{State}
use Rattle.generational_core.specs.Steps.{last_ticket}
use Rattle.generational_core.specs.declared.boxes.GenerationalPointer.{GenerationalPointer}
use Rattle.generational_errors.specs.declared.error.Location.{Location}
use Rattle.generational_errors.specs.declared.error.Refused.{Refused}
use Rattle.generational_errors.specs.declared.error.Refused.TheVariants as refused
use Rattle.generational_errors.specs.declared.error.StoreError.{StoreError}
use Rattle.generational_errors.specs.declared.error.StoreError.TheVariants as error

module _ {T : Type 0} where
  -- A call may fail to allocate, and fail for lack of numbers only if all tickets were issued. The store
  -- knows its own owners.
  abbrev pub Lacks : State T → StoreError → Type 0
  Lacks S error.OutOfMemory = Unit {0}
  Lacks S error.NumbersExhausted = S.next ≡ last_ticket
  Lacks S error.UnknownOwner = ⊥

  -- A call that fails needs so many slots and so many tickets, and fewer slots are free, so that it has
  -- to allocate, or fewer tickets remain.
  abbrev pub IsShort : State T → ℕ → ℕ → StoreError → Type 0
  IsShort S slots tickets error.OutOfMemory = free S < slots
  IsShort S slots tickets error.NumbersExhausted = last_ticket < S.next + tickets
  IsShort S slots tickets error.UnknownOwner = ⊥

  -- an error that isn't a borrow's, for lack of so many slots or tickets
  abbrev pub IsShortage : {E : Type 0} → State T → ℕ → ℕ → Refused E → Type 0
  IsShortage S slots tickets (refused.Store cause) = IsShort S slots tickets cause
  IsShortage S slots tickets (refused.Borrow e) = ⊥

  -- a box of the store is that of a reference
  pub record IsReference (S : State T) (b : GenerationalPointer) : Type 0 where
    pub own : b.id.store ≡ S.number
    pub shared : Name
    pub created_at : Location
    pub cell : map.get S.cells (name_of b) ≡ Some (Ref shared created_at)

-- Stores without references: what a box reaches is its own cell there. And what a table or a tree
-- keeps of its store.
use Rattle.std.specs.Prelude.{◌≡◌, Some}
use Rattle.std.specs.FinMap as map
use Rattle.generational_errors.specs.declared.error.Location.{Location}
use Rattle.generational_core.specs.Cells.Cell.{Ref}
use Rattle.generational_core.specs.Conditions.{IsBounded}
use Rattle.generational_core.specs.Leaving.{HasNoBorrows}
use Rattle.generational_core.specs.Machine.{Action}
use Rattle.generational_core.specs.Machine.Action.{MakeShared, Refer}
use Rattle.generational_core.specs.Names.{Name}
use Rattle.generational_core.specs.State.{State}

module _ {T : Type 0} where
  -- no cell is a Ref
  pub record HasNoReferences (S : State T) : Type 0 where
    pub none : (n m : Name) (l : Location) → map.get S.cells n ≡ Some (Ref m l) → ⊥

  -- a call makes no shared value and no reference
  abbrev pub MakesNoReference : Action T → Type 0
  MakesNoReference (MakeShared o v l) = ⊥
  MakesNoReference (Refer o b) = ⊥
  MakesNoReference _ = Unit {0}

  -- there is no borrow, no cell is a reference, and there are no more slots than are needed
  pub record IsSimple (S : State T) : Type 0 where
    pub unborrowed : HasNoBorrows S
    pub plain : HasNoReferences S
    pub bounded : IsBounded S

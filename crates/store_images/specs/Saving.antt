-- Images that are made of a store's state.
use Rattle.std.specs.Prelude.{◌≡◌, ℕ, true, [], Option, Some, None, is_some}
use Rattle.std.specs.FinMap as map
use Rattle.generational_core.specs.Borrowing.{write_refusal}
use Rattle.generational_core.specs.Cells.{Cell}
use Rattle.generational_core.specs.Cells.Cell.{Value, Shared, Ref}
use Rattle.generational_core.specs.Cells.Content.{Here}
use Rattle.generational_core.specs.Names.{Name}
use Rattle.generational_core.specs.State.{State, content_at}
use Rattle.store_images.specs.declared.image.SaveError.{SaveError}
use Rattle.store_images.specs.declared.image.SaveError.TheVariants as save

module _ {T : Type 0} (Copies : T → T → Type 0) where
  -- a cell, which has no borrow, and the same cell with a copy of its value
  abbrev pub IsCellCopy : Option (Cell T) → Option (Cell T) → Type 0
  IsCellCopy None c = c ≡ None
  IsCellCopy (Some (Value (Here v []) l)) c =
      (w : T) × Copies v w × (c ≡ Some (Value (Here w []) l))
  IsCellCopy (Some (Shared (Here v []) l)) c =
      (w : T) × Copies v w × (c ≡ Some (Shared (Here w []) l))
  IsCellCopy (Some (Ref m l)) c = c ≡ Some (Ref m l)
  IsCellCopy (Some cell) c = ⊥

  -- a state that differs from another in its values alone, each of which is a copy
  pub record IsStateCopy (S R : State T) : Type 0 where
    pub cells : (n : Name) → IsCellCopy (map.get S.cells n) (map.get R.cells n)
    pub rest : R ≡ record S { cells = R.cells }

-- why a store in this state has no image; memory may run out in any
abbrev pub IsSaveError : {T : Type 0} → State T → SaveError → Type 0
IsSaveError S save.Owned = ¬ (S.owners ≡ map.empty)
IsSaveError S (save.Borrowed k) = (g : ℕ)
    × (is_some (write_refusal (content_at S (record { slot = k; generation = g }))) ≡ true)
IsSaveError S save.OutOfMemory = Unit {0}

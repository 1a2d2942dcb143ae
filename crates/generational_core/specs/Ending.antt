-- What ends when names end, and what hinders it.
use Rattle.std.specs.Prelude.{if◌then◌else◌, not, ◌||◌, List, [], ◌∷◌, Option, None, Some, is_some}
use Rattle.std.specs.Option.{option_or}
use Rattle.std.specs.FinMap as map
use Rattle.generational_core.specs.Names.{Name, NameMap, among}
use Rattle.generational_core.specs.Cells.{Cell, content_of, is_shared}
use Rattle.generational_core.specs.Cells.Cell.{Value, Ref}
use Rattle.generational_core.specs.State.{State, is_named}
use Rattle.generational_core.specs.Borrowing.{BorrowRefusal, write_refusal}

module _ {T : Type 0} where
  unfoldable pub sweep : NameMap (Cell T) → NameMap (Cell T)  -- without unnamed Shared cells
  sweep cells = map.retain_keys cells (λ n. not (is_shared (map.get cells n)) || is_named cells n)

  -- the cells except for the Value and Ref cells of these names
  unfoldable pub take_away : NameMap (Cell T) → List Name → NameMap (Cell T)
  take_away cells names =
      map.retain_keys cells (λ n. is_shared (map.get cells n) || not (among names n))

  -- the cells that are left when these names end, and the state in which they have ended
  abbrev pub cells_after : NameMap (Cell T) → List Name → NameMap (Cell T)
  cells_after cells names = sweep (take_away cells names)

  abbrev pub close : State T → List Name → State T
  close S names = record S { cells = cells_after S.cells names }

  -- what hinders the end of a cell that isn't left: a borrow of it
  abbrev pub hindrance_at : NameMap (Cell T) → NameMap (Cell T) → Name → Option BorrowRefusal
  hindrance_at cells left n =
      if not (is_some (map.get left n)) then write_refusal (content_of (map.get cells n)) else None

  -- what hinders the end of a name: a borrow of its Value, or of its Ref's target
  abbrev pub hindrance_of : NameMap (Cell T) → NameMap (Cell T)
      → Option (Cell T) → Name → Option BorrowRefusal
  hindrance_of cells left (Some (Value c l)) n = hindrance_at cells left n
  hindrance_of cells left (Some (Ref m l)) n = hindrance_at cells left m
  hindrance_of cells left _ n = None

  -- what hinders the end of these names, at the first of them that is hindered
  abbrev pub first_hindrance : NameMap (Cell T) → NameMap (Cell T) → List Name → Option BorrowRefusal
  first_hindrance cells left [] = None
  first_hindrance cells left (n ∷ names) =
      option_or (hindrance_of cells left (map.get cells n) n) (first_hindrance cells left names)

  unfoldable pub hindrance_to : State T → List Name → Option BorrowRefusal
  hindrance_to S names = first_hindrance S.cells (cells_after S.cells names) names

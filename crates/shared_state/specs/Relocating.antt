-- States in which each location is turned by a function, and histories that lead to a state by the
-- letters of its locations.
use Rattle.std.specs.Prelude.{◌≡◌, List, Some, option_map, map as list_map}
use Rattle.std.specs.FinMap as map
use Rattle.generational_errors.specs.declared.error.Location.{Location}
use Rattle.generational_core.specs.declared.borrow.Borrow.{Borrow}
use Rattle.generational_core.specs.Names.{Name, NameMap}
use Rattle.generational_core.specs.Cells.{Content, Cell}
use Rattle.generational_core.specs.Cells.Content.{Here, Lent}
use Rattle.generational_core.specs.Cells.Cell.{Value, Shared, Ref}
use Rattle.shared_records.specs.declared.step.Step.{Step}
use Rattle.shared_records.specs.Letters.{lettered}
use Rattle.shared_history.specs.History.{Plain, replay_from}

module _ (p : Location → Location) where
  abbrev pub relocate_borrow : Borrow → Borrow
  relocate_borrow b = record b { location = p b.location }

  module _ {T : Type 0} where
    abbrev pub relocate_content : Content T → Content T
    relocate_content (Here v readers) = Here v (list_map relocate_borrow readers)
    relocate_content (Lent w) = Lent (relocate_borrow w)

    abbrev pub relocate_cell : Cell T → Cell T
    relocate_cell (Value c l) = Value (relocate_content c) (p l)
    relocate_cell (Shared c l) = Shared (relocate_content c) (p l)
    relocate_cell (Ref m l) = Ref m (p l)

    -- cells are these with their locations turned
    pub record AreTurned (C B : NameMap (Cell T)) : Type 0 where
      pub at : (n : Name) → map.get C n ≡ option_map relocate_cell (map.get B n)

  -- a state without values is another with its locations turned
  pub record IsStateRelocated (S A : Plain) : Type 0 where
    pub cells : NameMap (Cell (Unit {0}))
    pub is : S ≡ record A { cells = cells }
    pub turned : AreTurned cells A.cells

-- A history leads from a state to another by the letters of locations: it replays to one that is the same
-- except for where the texts of its locations are.
pub record HistoryLeadsTo (P : Plain) (steps : List Step) (Q : Plain) : Type 0 where
  pub end : Plain
  pub replays : replay_from P steps ≡ Some end
  -- both with the letters of their locations alone
  pub letters : Plain
  pub ended : IsStateRelocated lettered letters end
  pub same : IsStateRelocated lettered letters Q

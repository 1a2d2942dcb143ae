-- The cells that a store's rows list, and those of them that no table can have.
use Rattle.std.specs.Prelude.{◌≡◌, ◌≢◌, ℕ, List, [], ◌∷◌, Option, None, Some}
use Rattle.std.specs.FinMap as map
use Rattle.generational_core.specs.Cells.{Cell}
use Rattle.generational_core.specs.Cells.Cell.{Value, Shared, Ref}
use Rattle.generational_core.specs.Names.{Name}
use Rattle.generational_core.specs.State.{State, tickets_at}
use Rattle.generational_core.specs.declared.boxes.GenerationalPointer.{GenerationalPointer}
use Rattle.generational_core.specs.declared.rows.BaseRow.{BaseRow}
use Rattle.generational_core.specs.declared.rows.BaseRow.TheVariants as row
use Rattle.live_cells.specs.declared.cells.CellFault.{CellFault}
use Rattle.live_cells.specs.declared.cells.CellFault.TheVariants.{Borrowed, OutOfMemory}
use Rattle.live_cells.specs.declared.cells.CellFault.TheVariants as fault

-- ---- rows

-- the values that aren't shared, in order
abbrev pub listed_cells : List BaseRow → List GenerationalPointer
listed_cells [] = []
listed_cells (row.Value id l ∷ rows) = record { id = id; created_at = l } ∷ listed_cells rows
listed_cells (r ∷ rows) = listed_cells rows

-- a row of what no table can have
abbrev pub fault_of : BaseRow → Option CellFault
fault_of (row.Shared id l) = Some (fault.Shared id.slot)
fault_of (row.Ref id target l) = Some (fault.Shared id.slot)
fault_of (row.Reader id t l) = Some (Borrowed id.slot)
fault_of (row.Writer id t l) = Some (Borrowed id.slot)
fault_of _ = None

abbrev pub or_else : Option CellFault → Option CellFault → Option CellFault
or_else None other = other
or_else (Some f) other = Some f

-- the fault of the first row that has one
abbrev pub first_fault : List BaseRow → Option CellFault
first_fault [] = None
first_fault (r ∷ rows) = or_else (fault_of r) (first_fault rows)

-- ---- states

module _ {T : Type 0} where
  -- a cell is shared, or a reference
  abbrev pub IsSharing : Option (Cell T) → Type 0
  IsSharing (Some (Shared c l)) = Unit {0}
  IsSharing (Some (Ref m l)) = Unit {0}
  IsSharing _ = ⊥

  -- the fault is true of a store
  abbrev pub IsCellFault : State T → CellFault → Type 0
  IsCellFault S (Borrowed slot) = (n : Name) × (n.slot ≡ slot) × (tickets_at S.cells n ≢ [])
  IsCellFault S (fault.Shared slot) = (n : Name) × (n.slot ≡ slot) × IsSharing (map.get S.cells n)
  IsCellFault S OutOfMemory = Unit {0}

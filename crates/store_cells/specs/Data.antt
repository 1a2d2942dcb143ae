-- What a slot's content says.
use Rattle.std.specs.Prelude.{ℕ}
use Rattle.store_cells.specs.declared.entry.CellKind.{CellKind}
use Rattle.store_cells.specs.declared.entry.CellKind.TheVariants as kind
use Rattle.store_cells.specs.declared.entry.StorageEntryData.{StorageEntryData}
use Rattle.store_cells.specs.declared.entry.StorageEntryData.TheVariants as content

-- Nothing; a value of a kind; one with the index of its readers in the table of borrows; one that is
-- lent, with the index of its writer; or a reference, by its target's slot and generation.
pub data SlotData (T : Type 0) : Type 0 where
  Empty : SlotData T
  Data : CellKind → T → SlotData T
  Read : CellKind → ℕ → T → SlotData T
  Lent : CellKind → ℕ → SlotData T
  Reference : ℕ → ℕ → SlotData T

abbrev pub data_in : {T : Type 0} → StorageEntryData T → SlotData T
data_in (content.Data v) = Data kind.Value v
data_in (content.Shared v) = Data kind.Shared v
data_in (content.Read i v) = Read kind.Value i v
data_in (content.SharedRead i v) = Read kind.Shared i v
data_in (content.Lent i k) = Lent k i
data_in (content.Reference s g) = Reference s g
data_in content.Empty = Empty

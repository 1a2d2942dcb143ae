-- What a caller knows of a table.
use Rattle.std.specs.Prelude.{ℕ, List, Option}

-- what each row has, and how many more values can surely be read
pub record RowsState (T : Type 0) : Type 0 where
  pub rows : List (Option T)
  pub looks : ℕ

-- The table of all standing borrows of a store.
use Rattle.std.specs.Prelude.{◌≡◌, ◌≢◌, ◌<◌, ◌≤◌, ℕ, ◌⊎◌, true, false, nat_eq}
use Rattle.std.specs.Prelude.{if◌then◌else◌}
use Rattle.std.specs.Prelude.{List, [], ◌∷◌, ◌++◌, length, slice_index_or, slice_set}
use Rattle.std.specs.Ordering.{nat_cmp}
use Rattle.std.specs.FinSet as set
use Rattle.generational_core.specs.declared.borrow.Borrow.{Borrow}

-- the lists, the indexes that may be used again, and for how many lists there is room
pub record Table : Type 0 where
  pub lists : List (List Borrow)
  pub free : set.FinSet nat_cmp
  pub rooms : ℕ

-- the list at an index, which is empty past the end
abbrev pub list_at : List (List Borrow) → ℕ → List Borrow
list_at lists index = slice_index_or lists index []

-- the lists with one put at an index, which may be the one after the last
abbrev pub put_list : List (List Borrow) → ℕ → List Borrow → List (List Borrow)
put_list lists index list =
    if nat_eq index (length lists) then lists ++ list ∷ [] else slice_set lists index list

-- the index isn't in use: it was freed, or none was and it is the one after the last
abbrev pub IsVacant : Table → ℕ → Type 0
IsVacant t index =
    ((set.contains t.free index ≡ true) × (index < length t.lists))
    ⊎ ((t.free ≡ set.empty) × (index ≡ length t.lists))

-- an index that was freed has a list, and there is room for each list and for its index among the free
-- ones
pub record IsTable (lists : List (List Borrow)) (free : set.FinSet nat_cmp) (rooms capacity : ℕ)
    : Type 0 where
  pub within : (index : ℕ) → set.contains free index ≡ true → index < length lists
  pub roomy : length lists ≤ rooms
  pub fits : rooms ≤ capacity

-- the index of a cell without borrows
abbrev pub no_index : ℕ
no_index = 4294967295

-- borrows are at an index of the table
pub record IsUsed (t : Table) (i : ℕ) : Type 0 where
  pub within : i < length t.lists
  pub used : set.contains t.free i ≡ false
  pub some : list_at t.lists i ≢ []

-- an index that is free again, and the lists at the others unchanged
pub record IsClosed (t t' : Table) (x : ℕ) : Type 0 where
  pub others : (q : ℕ) → q ≢ x → list_at t'.lists q ≡ list_at t.lists q
  pub same : length t'.lists ≡ length t.lists
  pub rooms : t'.rooms ≡ t.rooms
  pub freed : t'.free ≡ set.insert t.free x

-- if no borrow is left, the index is freed, and else the others stay there
abbrev pub Releases : Table → Table → ℕ → ℕ → List Borrow → Type 0
Releases t t' x y [] = (y ≡ no_index) × IsClosed t t' x
Releases t t' x y left = (y ≡ x) × (t' ≡ record t { lists = slice_set t.lists x left })

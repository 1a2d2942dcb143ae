-- Lists of free slots.
use Rattle.std.specs.Prelude.{◌≡◌, ◌<◌, ℕ, zero, suc, List, [], ◌∷◌, true, nat_eq}
use Rattle.std.specs.Prelude.{slice_index_or}
use Rattle.std.specs.List.{list_any, IsDistinct}
use Rattle.std.specs.Ordering.{nat_cmp}
use Rattle.std.specs.FinSet as set

-- a list of free slots, and for how many slots there is room
pub record Pool : Type 0 where
  pub slots : List ℕ
  pub rooms : ℕ

-- the slots of the list
abbrev pub members_of : Pool → set.FinSet nat_cmp
members_of p = set.from_list p.slots

-- the slots differ, and there is room for each
pub record IsPool (slots : List ℕ) (rooms : ℕ) : Type 0 where
  pub distinct : IsDistinct nat_eq slots
  pub below : (slot : ℕ) → list_any (nat_eq slot) slots ≡ true → slot < rooms

-- so many slots, from a first one on: each slot's link leads to the next one
abbrev pub slot_chain : List ℕ → ℕ → ℕ → List ℕ
slot_chain links first zero = []
slot_chain links first (suc count) = first ∷ slot_chain links (slice_index_or links first 0) count

-- the last of a list, or else x
abbrev pub last_slot_of : ℕ → List ℕ → ℕ
last_slot_of x [] = x
last_slot_of x (y ∷ ys) = last_slot_of y ys

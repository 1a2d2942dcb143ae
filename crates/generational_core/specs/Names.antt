-- Names of cells, and maps and sets under them.
use Rattle.std.specs.Prelude.{ℕ, Bool, List, Option, None, Some}
use Rattle.std.specs.declared.cmp.Ordering.{Ordering}
use Rattle.std.specs.Ordering.{nat_cmp, ordering_then, eq_by_cmp}
use Rattle.std.specs.List.{list_any}
use Rattle.std.specs.FinMap as map
use Rattle.std.specs.FinSet as set

-- A cell's name: a slot, and a generation of that slot. Names are compared for equality alone.
pub record Name : Type 0 where
  pub slot : ℕ
  pub generation : ℕ

abbrev pub name_cmp : Name → Name → Ordering  -- an order of names, by which finite maps are kept
name_cmp a b = ordering_then (nat_cmp a.slot b.slot) (nat_cmp a.generation b.generation)

unfoldable pub is_name : Name → Name → Bool  -- whether two names are the same
is_name a b = eq_by_cmp name_cmp a b

abbrev pub among : List Name → Name → Bool  -- whether a name stands in a list
among names n = list_any (is_name n) names

abbrev pub Names : Type 0  -- finite sets of names, and finite maps under them
Names = set.FinSet name_cmp

abbrev pub NameMap : Type 0 → Type 0
NameMap X = map.FinMap name_cmp X

-- the map in which what a key has, if anything, is changed by f
abbrev pub change_if : {K X : Type 0} {R : K → K → Ordering}
    → map.FinMap R X → K → (X → X) → Option X → map.FinMap R X
change_if m k f None = m
change_if m k f (Some x) = map.insert m k (f x)

unfoldable pub change : {K X : Type 0} {R : K → K → Ordering}
    → map.FinMap R X → K → (X → X) → map.FinMap R X
change m k f = change_if m k f (map.get m k)

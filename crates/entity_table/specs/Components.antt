-- Components of entities.
use Rattle.std.specs.Borrow.{MutBor}
use Rattle.std.specs.Fn.{Once}
use Rattle.std.specs.Map.{lookup}
use Rattle.std.specs.Prelude.{◌≡◌, List, Option}
use Rattle.handles.specs.Handles.{is_same}
use Rattle.handles.specs.Maps.{MapState, value_of}
use Rattle.entity_table.specs.Tables.{Entity}

-- an entity's component
abbrev pub component_in : {T C : Type 0} → MapState C → Entity T → Option C
component_in t e = value_of t e

-- and the one that a list of them has for it
abbrev pub sparse_in : {T C : Type 0} → List (Entity T × C) → Entity T → Option C
sparse_in t e = lookup (is_same e) t

-- a call of f at `&mut` to two values may return r and leave two others
pub record CalledOnPair {F V R : Type 0}
    (g : Once F (MutBor V × (MutBor V × Unit {0})) (R × (MutBor V × (MutBor V × Unit {0}))))
    (f : F) (x : V × V) (r : R) (y : V × V) : Type 0 where
  pub first : MutBor V
  pub second : MutBor V
  pub shows : (first.now ≡ x.0) × (second.now ≡ x.1)
  pub left : MutBor V × (MutBor V × Unit {0})
  pub met : g.post f (first, (second, tt)) (r, left)
  pub leaves : (left.0.now ≡ y.0) × (left.1.0.now ≡ y.1)

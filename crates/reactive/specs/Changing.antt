-- Nodes that were made or set, and changes in place.
use Rattle.std.specs.Borrow.{MutBor}
use Rattle.std.specs.Fn.{FnOnceReturnsAtMut, Once}
use Rattle.std.specs.Prelude.{◌≡◌, ◌≤◌, ℕ, [], Option, Some}
use Rattle.std.specs.Vec.{vec_items}
use Rattle.reactive.specs.declared.key.Key.{Key}
use Rattle.reactive.specs.declared.node.Node.{Node}
use Rattle.reactive.specs.Tables.{IsPut, NodeTable}

-- a node has a rule or a value, and is else as new
pub record IsResetTo {T R : Type 0} (its : Option R) (shown : Option T) (now : ℕ) (n : Node T R) : Type 0 where
  pub rule : n.rule ≡ its
  pub value : n.value ≡ shown
  pub asked : vec_items n.reads ≡ []
  pub changed : n.changed ≡ now
  pub checked : n.checked ≤ now

-- from one table to another a key's node was changed by a closure, which returned this
pub record IsChanged {F U T R : Type 0}
    (g : Once F (MutBor (Node T R) × Unit {0}) (U × (MutBor (Node T R) × Unit {0})))
    (f : F) (old : NodeTable T R) (k : Key) (u : U) (new : NodeTable T R) : Type 0 where
  pub was : Node T R
  pub is : Node T R
  pub had : old k ≡ Some was
  pub called : FnOnceReturnsAtMut g f was u is
  pub put : IsPut old k is new

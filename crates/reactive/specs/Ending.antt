-- Nodes that were removed.
use Rattle.std.specs.Prelude.{◌≡◌, ◌≢◌, ◌⊎◌, ℕ, List, [], ◌∷◌, None, Some}
use Rattle.reactive.specs.declared.key.Key.{Key}
use Rattle.reactive.specs.Links.{IsSlotLinked, Leans}
use Rattle.reactive.specs.Tables.{Book, NodeTable}

-- a key is in a list
abbrev pub IsKeyAmong : Key → List Key → Type 0
IsKeyAmong k [] = ⊥
IsKeyAmong k (j ∷ rest) = (j ≡ k) ⊎ IsKeyAmong k rest

module _ {T R : Type 0} where
  -- from one table to another the nodes of a list were removed, and no others
  pub record HasLostKeys (old : NodeTable T R) (gone : List Key) (new : NodeTable T R) : Type 0 where
    pub ended : (k : Key) → IsKeyAmong k gone → new k ≡ None
    pub others : (k : Key) → (IsKeyAmong k gone → ⊥) → new k ≡ old k
    pub left : (k : Key) → (new k ≡ None) ⊎ (new k ≡ old k)

-- From one book to another what has changed was forgotten, and each memo that is still known reads
-- nothing that has.
pub record AreForgotten {T R : Type 0} (old new : Book T R) : Type 0 where
  pub web : new.web ≡ old.web
  pub fewer : (s g : ℕ) → new.known s ≡ Some g → old.known s ≡ Some g
  pub here : (k : Key) → (new.nodes k ≡ old.nodes k) ⊎ (new.known k.id.slot ≡ None)
  pub others : (r s g : ℕ) → new.known r ≡ Some g → IsSlotLinked old.web r s
      → (new.known s ≡ old.known s) × ((k : Key) → k.id.slot ≡ s → new.nodes k ≡ old.nodes k)

-- From one book to another what was known of slots is still known, unless they depend on that of one of
-- these nodes, which had not been removed.
abbrev pub AreSpared : {T R : Type 0} → Book T R → List Key → Book T R → Type 0
AreSpared old keys new = (s : ℕ) → (new.known s ≡ old.known s)
    ⊎ ((k : Key) × IsKeyAmong k keys × (old.nodes k ≢ None) × Leans old.web old.known s k.id.slot)

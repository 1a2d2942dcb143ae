-- What holds of every session: its state is sound, its slots are bounded, and what its places hold
-- is the store's own.
use Rattle.std.specs.Prelude.{◌≡◌, ℕ, ◌≤◌, Bool, true, false, nat_eq}
use Rattle.std.specs.List.{count_by}
use Rattle.generational_core.specs.Boxes.{name_of}
use Rattle.generational_core.specs.State.{State, IsSound, IsBoxed}
use Rattle.generational_core.specs.Conditions.{count_under, IsBounded}
use Rattle.generational_core.specs.Machine.{knows_reader, knows_writer}
use Rattle.generational_sessions.specs.Session.{SessionState, Held, at_place}
use Rattle.generational_sessions.specs.Session.Held.{Boxed, Reading, Writing, Owning, Nothing}

module _ {T : Type 0} where
  -- What is held is the store's own: the name of a box was issued there and is no Shared cell's, the
  -- store knows a guard, and an owner is of this store.
  unfoldable pub IsStoresOwn : State T → Held T → Type 0
  IsStoresOwn S (Boxed b) = (b.id.store ≡ S.number) × IsBoxed S (name_of b)
  IsStoresOwn S (Reading g) = knows_reader S g ≡ true
  IsStoresOwn S (Writing g v) = knows_writer S g ≡ true
  IsStoresOwn S (Owning o) = o.store ≡ S.number
  IsStoresOwn S Nothing = Unit {0}

  -- two boxes have one name, or two guards of one kind have one ticket
  unfoldable pub AreOne : Held T → Held T → Type 0
  AreOne (Boxed b) (Boxed c) = name_of b ≡ name_of c
  AreOne (Reading g) (Reading h) = g.ticket ≡ h.ticket
  AreOne (Writing g v) (Writing h w) = g.ticket ≡ h.ticket
  AreOne _ _ = ⊥

  -- whether an owner of this record is held
  abbrev pub holds_owner : ℕ → Held T → Bool
  holds_owner key (Owning o) = nat_eq o.key key
  holds_owner key _ = false

  pub record IsSoundSession (s : SessionState T) : Type 0 where
    pub sound : IsSound s.state
    -- a slot is made only if none is free
    pub bounded : IsBounded s.state
    pub own : (p : ℕ) → IsStoresOwn s.state (at_place s.table p)
    -- boxes at different places have different names, and each guard is held at one place
    pub apart : (p q : ℕ) → AreOne (at_place s.table p) (at_place s.table q) → p ≡ q
    -- no more owners are held than their record counts
    pub counted : (key : ℕ) → count_by (holds_owner key) s.table ≤ count_under s.state.owners key

-- A state with the proofs that it is sound and that its slots are bounded. Each of the two facts
-- has at most one proof, so states that are equal are equal with their proofs.
use Rattle.std.specs.Prelude.{◌≡◌, ℕ, List, [], ◌∷◌, Bool, refl}
use Rattle.std.specs.Coded.{Coded, Coded-set, code_by, coded×, coded_ℕ, coded_bool, le_prop}
use Rattle.std.specs.List.{IsDistinct, AllByRecursion}
use mathlib.Core.HLevel.{is_prop→PathP}
use Rattle.generational_core.specs.Names.{Name}
use Rattle.generational_core.specs.State.{State, IsSound}
use Rattle.generational_core.specs.Conditions.{IsBounded}

-- a name is stored as its slot and its generation
name_code : Coded Name
name_code =
    code_by (ℕ × ℕ) (coded× coded_ℕ coded_ℕ) (λ n. (n.slot, n.generation))
    (λ p. record { slot = p.0; generation = p.1 }) (λ _. refl)

-- an equation of truth values, and one of names, has at most one proof
bools-prop : {a b : Bool} → IsProp (a ≡ b)
bools-prop = Coded-set coded_bool _ _

names-prop : {n m : Name} → IsProp (n ≡ m)
names-prop = Coded-set name_code _ _

-- and so has a list of such facts, one for each element
all-prop : {A : Type 0} (P : A → Type 0) → ((x : A) → IsProp (P x)) → (xs : List A)
    → IsProp (AllByRecursion P xs)
all-prop P one [] = λ a b i. tt
all-prop P one (x ∷ xs) = λ a b i. (one x a.0 b.0 i, all-prop P one xs a.1 b.1 i)

-- and that the elements of a list differ
distinct-prop : {A : Type 0} (eq : A → A → Bool) (xs : List A) → IsProp (IsDistinct eq xs)
unfolding IsDistinct
distinct-prop eq [] = λ a b i. tt
distinct-prop eq (x ∷ xs) = λ a b i.
    (all-prop _ (λ y. bools-prop) xs a.0 b.0 i, distinct-prop eq xs a.1 b.1 i)

module _ {T : Type 0} where
  -- that a state is sound has at most one proof
  pub IsSound-prop : (S : State T) → IsProp (IsSound S)
  IsSound-prop S a b i =
      record {
        given = λ n h. bools-prop (a.given n h) (b.given n h) i;
        owned = λ k h e. all-prop _ (λ n s r j. (bools-prop s.0 r.0 j, bools-prop s.1 r.1 j))
            h.names (a.owned k h e) (b.owned k h e) i;
        targets = λ n m l h. bools-prop (a.targets n m l h) (b.targets n m l h) i;
        shared = λ m h. bools-prop (a.shared m h) (b.shared m h) i;
        below = λ n t h. le_prop (a.below n t h) (b.below n t h) i;
        apart = λ n. distinct-prop _ _ (a.apart n) (b.apart n) i;
        one_cell = λ n m t h k. names-prop (a.one_cell n m t h k) (b.one_cell n m t h k) i;
        keys = λ k h. le_prop (a.keys k h) (b.keys k h) i;
      }

  -- and so has the bound on its slots
  pub IsBounded-prop : (S : State T) → IsProp (IsBounded S)
  IsBounded-prop S a b i =
      record {
        few = le_prop a.few b.few i;
        live = le_prop a.live b.live i;
        dense = λ s h. le_prop (a.dense s h) (b.dense s h) i;
        last = λ n h. names-prop (a.last n h) (b.last n h) i;
      }

-- A state that is sound, and whose slots are bounded.
pub record SoundState (T : Type 0) : Type 0 where
  pub state : State T
  pub sound : IsSound state
  pub bounded : IsBounded state

-- its state determines it
pub same_sound : {T : Type 0} (s r : SoundState T) → s.state ≡ r.state → s ≡ r
same_sound s r p = λ i. record {
  state = p i;
  sound = is_prop→PathP (λ j. IsSound (p j)) (λ j. IsSound-prop (p j)) s.sound r.sound i;
  bounded = is_prop→PathP (λ j. IsBounded (p j)) (λ j. IsBounded-prop (p j)) s.bounded r.bounded i;
}

-- A value that was put is found under its key.
use Rattle.std.proofs.Common.{◌≡◌, ◌∷◌, ◌++◌, ℕ, List, Bool, Option, [], None, Some, ap, false, refl, true}
use Rattle.std.proofs.lemmas.Bool.{eq-eqb}
use Rattle.std.specs.Prelude.{is_some, nat_eq, option_map}
use Rattle.std.specs.Map.{lookup}
use Rattle.session_table.specs.Sessions.{Entry, LiveSession, find_entry, with_entry}
use Rattle.session_table.specs.Tables.{shown_in, value_under}
use Rattle.example_durable_sessions.specs.Files.{InMemory, session_of}

-- the last entry is found, if no other has its key
found_last : {X : Type 0} (k : ℕ) (x : X) (es : List (ℕ × X)) → (is_some (lookup (nat_eq k) es) ≡ true → ⊥)
    → lookup (nat_eq k) (es ++ (k, x) ∷ []) ≡ Some x
found_last k x [] none = rw (eq-eqb k k refl) refl
found_last k x (e ∷ es) none = by (nat_eq k e.0) refl (λ none. found_last k x es none)
  where
    by : (b : Bool) → nat_eq k e.0 ≡ b
        → ((is_some (lookup (nat_eq k) es) ≡ true → ⊥) → lookup (nat_eq k) (es ++ (k, x) ∷ []) ≡ Some x)
        → lookup (nat_eq k) ((e ∷ es) ++ (k, x) ∷ []) ≡ Some x
    by true here rest = absurd (none (rw here refl))
    by false other rest = rw other (rest (λ some. none (rw other some)))

module _ (old new : InMemory) (id key value : ℕ) (e : Entry ℕ) where
  pub value_stored : (is_some (session_of old id) ≡ false → ⊥)
      → (is_some (find_entry (nat_eq key) (session_of old id)) ≡ true → ⊥)
      → session_of new id ≡ option_map (with_entry key e) (session_of old id)
      → shown_in new e ≡ Some value
      → value_under (nat_eq id) (nat_eq key) new ≡ Some value
  value_stored known free kept shown = by (session_of old id) known free kept
    where
      by : (o : Option (LiveSession ℕ ℕ)) → (is_some o ≡ false → ⊥) → (is_some (find_entry (nat_eq key) o) ≡ true → ⊥)
          → session_of new id ≡ option_map (with_entry key e) o
          → value_under (nat_eq id) (nat_eq key) new ≡ Some value
      by None known free kept = absurd (known refl)
      by (Some s) known free kept = rw kept (rw (found_last key e s.entries free) shown)

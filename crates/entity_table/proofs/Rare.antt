-- Components in a list that has each entity once.
use Rattle.entity_table.proofs.Keeping.Common.{ap, arith, Bool, Entity, EntityKind, false, GenerationalBoxId, held, IsOther}
use Rattle.entity_table.proofs.Keeping.Common.{IsSame, map, MapState, row_at, rules, Some, sym, true, true≢false, value_of, ℕ, ◌∙◌, ◌≡◌}
use Rattle.entity_table.proofs.Keeping.Common.{by_option, if◌then◌else◌, joined_rows, List, nat_eq, None, Option, slice_get, [], ◌∷◌}
use Rattle.entity_table.specs.Components.{sparse_in}
use Rattle.handles.specs.Handles.{is_same}
use Rattle.std.proofs.lemmas.Bool.{false_from_ne_true}
use Rattle.std.proofs.lemmas.Map.Entries.{lookup_from_place, place_from_lookup}
use Rattle.std.specs.Cmp.{IsEquivalence}
use Rattle.std.specs.Cmp.Rules.{comparing}
use Rattle.std.specs.List.{AllByRecursion, IsDistinct}
use Rattle.std.specs.Prelude.{cond}

module _ {T : Type 0} where
  same_laws : IsEquivalence (is_same {T = T} {K = EntityKind})
  same_laws = search (comparing, rules)

  pub same_entity : (a b : Entity T) → is_same a b ≡ true → IsSame a b
  same_entity a b equal = grind (arith, equal)

  pub entity_same : (a b : Entity T) → IsSame a b → is_same a b ≡ true
  entity_same a b same = grind (arith, same)

  -- a test of equality that fails
  pub other_entities : (a b : Entity T) (answer : Bool) → answer ≡ is_same a b → answer ≡ false → IsOther a b
  other_entities a b answer is never same = true≢false (sym (entity_same a b same) ∙ (sym is ∙ never))

  pub other_entity : (a b : Entity T) → IsOther a b → is_same a b ≡ false
  other_entity a b ne = false_from_ne_true _ (λ equal. ne (same_entity a b equal))

  pub component_same : {C : Type 0} (m : MapState C) (a b : Entity T) → IsSame a b → value_of m a ≡ value_of m b
  component_same m a b same =
      ap (λ (id : GenerationalBoxId). if nat_eq id.store m.number then held (row_at m.rows id.slot) id.generation else None) same

  module _ {C : Type 0} (es : List (Entity T × C)) (e : Entity T) (c : C) where
    -- what an entity has is what the list has at an index
    pub sparse_at : (i : ℕ) → IsDistinct is_same (map (λ p. p.0) es) → slice_get es i ≡ Some (e, c)
        → sparse_in es e ≡ Some c
    sparse_at i once at = lookup_from_place same_laws es i e c once at

    pub sparse_place : sparse_in es e ≡ Some c → (i : ℕ) × (k : Entity T) × (slice_get es i ≡ Some (k, c)) × IsSame k e
    sparse_place has =
        let at = place_from_lookup (is_same e) es c has in (at.0, at.1, at.2, sym (same_entity e at.1 at.3))

-- what differs in keys still does, once each key is joined with what is found for it
module _ {E V W : Type 0} (see : E → Option V) (eq : E → E → Bool) where
  joined_apart : (e : E) (ps : List (E × W)) → AllByRecursion (λ y. eq e y ≡ false) (map (λ p. p.0) ps)
      → AllByRecursion (λ y. eq e y ≡ false) (map (λ q. q.0) (joined_rows see ps))
  joined_apart e [] apart = apart
  joined_apart e (p ∷ ps) apart =
      let rest = joined_apart e ps apart.1 in
      by_option (see p.0) (λ none. rw none rest) (λ v some. rw some (apart.0, rest))

  pub joined_once : (ps : List (E × W)) → IsDistinct eq (map (λ p. p.0) ps)
      → IsDistinct eq (map (λ q. q.0) (joined_rows see ps))
  unfolding IsDistinct
  joined_once [] once = once
  joined_once (p ∷ ps) once =
      let rest = joined_once ps once.1 in
      by_option (see p.0) (λ none. rw none rest) (λ v some. rw some (joined_apart p.0 ps once.0, rest))

-- what isn't changed
pub unless_same : {A : Type 0} (n w o : A) (b : Bool) → n ≡ cond b w o → b ≡ false → n ≡ o
unless_same n w o b is never = grind (arith, is, never)

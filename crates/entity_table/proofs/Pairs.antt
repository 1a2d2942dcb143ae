-- Two components that are changed at once.
use Rattle.entity_table.proofs.Keeping.Common.{ap, arith, by_number, by_option, Entity, get_or-set_same, Held}
use Rattle.entity_table.proofs.Keeping.Common.{IsOther, is_some, key_cases, length, length-set, MapState, None, one_slot}
use Rattle.entity_table.proofs.Keeping.Common.{put_here, put_lost, refl, Row, row_at, set_apart, slice_set, slot_in, Some}
use Rattle.entity_table.proofs.Keeping.Common.{sym, true, Vacant, value_of, value_within, ⊎_elim, ◌<◌, ◌∙◌, ◌≡◌, ◌≢◌}
use Rattle.handles.specs.Maps.{refilled}

-- an entity has no component in a slot where another has one
none_beside : {T C : Type 0} (m : MapState C) (a e : Entity T) → is_some (value_of m a) ≡ true → slot_in a ≡ slot_in e
    → IsOther a e → value_of m e ≡ None
none_beside m a e some slot ne = by_option (value_of m e) (λ none. none)
    (λ v is. absurd (ne (one_slot m a e some (ap is_some is) slot)))

-- a component that was replaced
pub refilled_here : {T C : Type 0} (m : MapState C) (e : Entity T) (y q : C) → value_of m e ≡ Some y
    → value_of (record m { rows = slice_set m.rows (slot_in e) (refilled (row_at m.rows (slot_in e)) q) }) e ≡ Some q
refilled_here {T} {C} m e y q has = at (row_at m.rows (slot_in e)) refl
  where
    at : (r : Row C) → row_at m.rows (slot_in e) ≡ r
        → value_of (record m { rows = slice_set m.rows (slot_in e) (refilled (row_at m.rows (slot_in e)) q) }) e ≡ Some q
    at Vacant is = grind (arith, has, is)
    at (Held site generation v) is =
        let within = value_within m e (ap is_some has) in grind (arith, has, is, get_or-set_same, within)

-- the first of two entities' components is taken out
module _ {T C : Type 0} (m m1 : MapState C) (a b : Entity T) (x : C) (has_a : value_of m a ≡ Some x)
    (has_b : is_some (value_of m b) ≡ true) (ne : IsOther a b)
    (taken : m1 ≡ record m { rows = slice_set m.rows (slot_in a) Vacant }) where
  apart : slot_in a ≢ slot_in b
  apart same = ne (one_slot m a b (ap is_some has_a) has_b same)

  own : a.store ≡ m.number
  own = grind (arith, has_a)

  pub pair_second : value_of m1 b ≡ value_of m b
  pair_second = rw taken (set_apart m.number m.rows a b Vacant apart)

  -- that of the second changes
  module _ (m2 : MapState C) (y q : C) (had : value_of m b ≡ Some y)
      (changed : m2 ≡ record m1 { rows = slice_set m1.rows (slot_in b) (refilled (row_at m1.rows (slot_in b)) q) }) where
    second : value_of m2 b ≡ Some q
    second = rw changed (refilled_here m1 b y q (pair_second ∙ had))

    pub pair_within : slot_in a < length m2.rows
    pair_within = rw (changed, taken) (omega (
      arith,
      value_within m a (ap is_some has_a),
      length-set m.rows (slot_in a) Vacant,
      length-set (slice_set m.rows (slot_in a) Vacant) (slot_in b)
          (refilled (row_at (slice_set m.rows (slot_in a) Vacant) (slot_in b)) q),
    ))

    -- and the first is put back
    module _ (m3 : MapState C) (p : C) (number : m3.number ≡ m2.number)
        (put : m3.rows ≡ slice_set m2.rows (slot_in a) (Held a.site a.generation p)) where
      whole : m3 ≡ record { number = m2.number; rows = slice_set m2.rows (slot_in a) (Held a.site a.generation p) }
      whole = λ i. record { number = number i; rows = put i }

      numbers : m2.number ≡ m.number
      numbers = rw (changed, taken) refl

      pub pair_first : value_of m3 a ≡ Some p
      pair_first = rw whole (put_here m2.number m2.rows a p (own ∙ sym numbers) pair_within)

      beside : (e : Entity T) → slot_in a ≢ slot_in e → value_of m3 e ≡ value_of m2 e
      beside e other = rw whole (set_apart m2.number m2.rows a e (Held a.site a.generation p) other)

      pub pair_changed : value_of m3 b ≡ Some q
      pair_changed = beside b apart ∙ second

      pub pair_others : (e : Entity T) → IsOther a e → IsOther b e → value_of m3 e ≡ value_of m e
      pair_others e not_a not_b = ⊎_elim
          (λ here.
          let lost : value_of m3 e ≡ None = rw whole (put_lost m2.number m2.rows a e p (own ∙ sym numbers) pair_within here not_a) in
          lost ∙ sym (none_beside m a e (ap is_some has_a) here not_a))
          (λ away. beside e away ∙ ⊎_elim
          (λ there. none_beside m2 b e (ap is_some second) there not_b ∙ sym (none_beside m b e has_b there not_b))
          (λ far.
          let one : value_of m2 e ≡ value_of m1 e =
          rw changed (set_apart m1.number m1.rows b e (refilled (row_at m1.rows (slot_in b)) q) far) in
          let two : value_of m1 e ≡ value_of m e = rw taken (set_apart m.number m.rows a e Vacant away) in one ∙ two)
          (key_cases by_number (slot_in b) (slot_in e)))
          (key_cases by_number (slot_in a) (slot_in e))

-- Lists of stamped values.
use Rattle.std.proofs.Common.{ap, arith, get_or, length, List, map, None, Option, refl, set, Some, suc, sym, zero, ℕ, ⊎_elim, [], ◌∙◌, ◌∷◌, ◌≡◌, ◌≢◌, ◌≤◌, ◌<◌}
use Rattle.std.proofs.lemmas.List.{get_or-set_other, get_or-set_same}
use Rattle.std.proofs.lemmas.Bool.{cases_eq}
use Rattle.stamped_values.specs.Stamps.{AreStamped, stamped_at, value_by}
use Rattle.stamped_values.specs.declared.values.Stamped.{Stamped}

module _ {T : Type 0} where
  -- a slot's value is that of its row
  pub at_mapped : (stamp : ℕ) (rows : List (Option (Stamped T))) (s : ℕ)
      → stamped_at (map (value_by stamp) rows) s ≡ value_by stamp (get_or rows s None)
  at_mapped stamp [] s = refl
  at_mapped stamp (r ∷ rows) zero = refl
  at_mapped stamp (r ∷ rows) (suc s) = at_mapped stamp rows s

  -- an old row has no value
  old_row : (stamp next : ℕ) (o : Option (Stamped T)) → stamp < next
      → ((r : Stamped T) → o ≡ Some r → r.stamp ≤ stamp) → value_by next o ≡ None
  old_row stamp next None later at = refl
  old_row stamp next (Some r) later at = let low = at r refl in grind (arith)

  pub none_left : (stamp next : ℕ) (rows : List (Option (Stamped T))) → AreStamped stamp rows → stamp < next
      → (s : ℕ) → stamped_at (map (value_by next) rows) s ≡ None
  none_left stamp next rows old later s = rw (at_mapped next rows s)
      (old_row stamp next (get_or rows s None) later (old s))

  same_value : (stamp : ℕ) (value : T) → value_by stamp (Some (record { stamp = stamp; value = value })) ≡ Some value
  same_value stamp value = grind (arith)

  module _ (stamp : ℕ) (rows new : List (Option (Stamped T))) (slot : ℕ) (value : T) (room : slot < length new)
      (same : (s : ℕ) → get_or new s None ≡ get_or rows s None) where
    abbrev pub row : Option (Stamped T)
    row = Some (record { stamp = stamp; value = value })

    here : get_or (set new slot row) slot None ≡ row
    here = get_or-set_same new slot row None room

    -- one more row, with this stamp
    pub put_stamped : AreStamped stamp rows → AreStamped stamp (set new slot row)
    put_stamped old s r is = ⊎_elim
        (λ eq. let it : row ≡ Some r = sym here ∙ (ap (λ i. get_or (set new slot row) i None) (sym eq) ∙ is) in grind (arith))
        (λ other. old s r (sym (same s) ∙ (sym (get_or-set_other new slot s row None other) ∙ is)))
        (cases_eq s slot)

    pub put_here : stamped_at (map (value_by stamp) (set new slot row)) slot ≡ Some value
    put_here = at_mapped stamp (set new slot row) slot ∙ (ap (value_by stamp) here ∙ same_value stamp value)

    pub put_others : (s : ℕ) → s ≢ slot
        → stamped_at (map (value_by stamp) (set new slot row)) s ≡ stamped_at (map (value_by stamp) rows) s
    put_others s other = at_mapped stamp (set new slot row) s
        ∙ (ap (value_by stamp) (get_or-set_other new slot s row None other ∙ same s) ∙ sym (at_mapped stamp rows s))

  module _ (stamp : ℕ) (rows new : List (Option (Stamped T))) (same : (s : ℕ) → get_or new s None ≡ get_or rows s None) where
    pub room_stamped : AreStamped stamp rows → AreStamped stamp new
    room_stamped old s r is = old s r (sym (same s) ∙ is)

    pub room_others : (s : ℕ) → stamped_at (map (value_by stamp) new) s ≡ stamped_at (map (value_by stamp) rows) s
    room_others s = at_mapped stamp new s ∙ (ap (value_by stamp) (same s) ∙ sym (at_mapped stamp rows s))

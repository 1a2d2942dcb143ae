-- Counts of what documents have, and lists of children with one fewer.
use Rattle.document_tree.proofs.Keeping.{counted_alike, counted_less, one_or_two}
use Rattle.document_tree.specs.Counting.{HasParts, HasPlaces, PartHasPlaces}
use Rattle.document_tree.specs.Documents.{children_shown, DocumentState, Leaves, part_at, part_in, Place, Shown, shown_in, shown_of, with_children}
use Rattle.document_tree.specs.Keeping.{AreExactly, key_in, without_one}
use Rattle.document_tree.specs.Outlines.{children_in}
use Rattle.example_libraries.proofs.Walks.Common.{All, ap, arith, false, is_some, IsOther, length, List, None, Option, refl, same_Some, Some}
use Rattle.example_libraries.proofs.Walks.Common.{subst, suc, sym, true, true≢false, zero, ℕ, [], ⊎_elim, ◌+◌, ◌<◌, ◌∙◌, ◌∷◌, ◌≡◌, ◌≢◌, ◌≤◌}
use Rattle.generational_core.specs.declared.boxes.GenerationalBoxId.{GenerationalBoxId}
use Rattle.handles.specs.Handles.{at_slot, id_in, IsSame}
use Rattle.std.proofs.lemmas.List.Edits.{length-remove}
use Rattle.std.proofs.lemmas.List.Quantifiers.{position-Some}
use Rattle.std.proofs.lemmas.List.Sums.{prefix_len_passes}
use Rattle.std.specs.List.{position, position_or_len, remove}
use Rattle.std.specs.Prelude.{Bool, IfSome, not, unwrap_or, ◌⊎◌}

-- ==== lists of children

-- what is nowhere in a list isn't any of its elements
not_there : {X : Type 0} (p : X → Bool) (xs : List X) → None ≡ position p xs → All (λ x. p x ≡ false) xs
not_there p xs is k d lt =
    let all : k < position_or_len p xs = grind (arith, is, lt) in
    grind (arith, prefix_len_passes (λ x. not (p x)) xs k d all)

one_fewer : {X : Type 0} (p : X → Bool) (xs : List X) (i : ℕ) → Some i ≡ position p xs
    → length (remove xs i) + 1 ≡ length xs
one_fewer p [] i is = grind arith
one_fewer p (x ∷ xs) i is = length-remove (x ∷ xs) i (position-Some p (x ∷ xs) i x (sym is)).0

fewer_by : {T : Type 0} (p : Place → Bool) (old new : Option (Shown T)) (i : ℕ)
    → Some i ≡ position p (unwrap_or (children_shown old) []) → new ≡ with_children (λ list. remove list i) old
    → length (unwrap_or (children_shown new) []) + 1 ≡ length (unwrap_or (children_shown old) [])
fewer_by p None new i is to = grind (arith, is)
fewer_by p (Some shown) new i is to =
    ap (λ o. length (unwrap_or (children_shown o) []) + 1) to ∙ one_fewer p shown.children i is

module _ {T : Type 0} (D E : DocumentState T) (page : Place) (p : Place → Bool) where
  -- without the child at the index where one was found there is one fewer
  pub child_fewer : (index : Option ℕ) → index ≡ position p (children_in D page)
      → IfSome index (λ at. (q : Place) → part_in D q ≡ part_in D page
      → shown_in E q ≡ with_children (λ list. remove list at) (shown_in D page))
      → is_some index ≡ true → length (children_in E page) + 1 ≡ length (children_in D page)
  child_fewer None is to found = absurd (true≢false (sym found))
  child_fewer (Some i) is to found = fewer_by p (shown_in D page) (shown_in E page) i is (to page refl)

  -- and if none was found, none is there
  pub none_there : (index : Option ℕ) → index ≡ position p (children_in D page) → is_some index ≡ false
      → All (λ x. p x ≡ false) (children_in D page)
  none_there None is none = not_there p (children_in D page) is
  none_there (Some i) is none = absurd (true≢false none)

-- ==== counts

-- if each of some things has one of others of its own, there are no fewer of the others
counted_onto : {X Y : Type 0} → ((x y : X) → (x ≡ y) ⊎ (x ≢ y)) → (of : X → Option Y) (m n : ℕ)
    (P : X → Type 0) (Q : Y → Type 0) → ((y : Y) → Q y → (x : X) × P x × (of x ≡ Some y))
    → AreExactly m Q → AreExactly n P → m ≤ n
counted_onto same of zero n P Q has k all = omega arith
counted_onto same of (suc m) n P Q has k all =
    let x = has k.0 k.1 in
    let less = counted_less same n P x.0 x.1 all in
    let fits = counted_onto same of m less.0 (without_one P x.0) (without_one Q k.0)
    (λ y h. let z = has y h.0 in
    (z.0, (z.1, λ e. h.1 (same_Some y k.0 (sym z.2 ∙ (ap of e ∙ x.2)))), z.2)) k.2 less.2 in
    omega (arith, fits, less.1)

-- a place by its id
abbrev place_at : GenerationalBoxId → Place
place_at id = at_slot id.store id.slot 0 id.generation

module _ {T : Type 0} where
  -- there are no more parts than places
  pub parts_within : (D : DocumentState T) (m n : ℕ) → HasParts D m → HasPlaces D n → m ≤ n
  parts_within D m n parts places = counted_onto one_or_two (key_in D.state) m n
      (λ id. is_some (key_in D.state id) ≡ true) (λ key. (p : Place) × (part_in D p ≡ Some key))
      (λ key at. (id_in at.0, ap is_some at.1, at.1)) parts places

  -- a place that shows something refers to a part
  shows_part : (D : DocumentState T) (p : Place) → shown_in D p ≢ None → is_some (part_in D p) ≡ true
  shows_part D p shows = by (part_in D p) refl
    where
      by : (key : Option ℕ) → part_in D p ≡ key → is_some key ≡ true
      by None gone = absurd (shows (ap (λ o. shown_of (part_at D.parts o)) gone))
      by (Some key) is = refl

  -- before a place was removed there was one more
  pub one_less : (D E : DocumentState T) (p : Place) (n : ℕ) → shown_in D p ≢ None
      → ((q : Place) → IsSame p q → part_in E q ≡ None) → ((q : Place) → IsOther p q → Leaves D q E)
      → HasPlaces E n → HasPlaces D (n + 1)
  one_less D E p n shows gone left places = subst (HasPlaces D) more (
    id_in p,
    shows_part D p shows,
    counted_alike n (λ id. is_some (key_in E.state id) ≡ true)
        (without_one (λ id. is_some (key_in D.state id) ≡ true) (id_in p))
        (λ id is. ⊎_elim (λ one. absurd (true≢false (sym is ∙ ap is_some (gone (place_at id) (sym one)))))
        (λ two. (sym (ap is_some (left (place_at id) (λ e. two (sym e))).part) ∙ is, two)) (one_or_two id (id_in p)))
        (λ id h. ap is_some (left (place_at id) (λ e. h.1 (sym e))).part ∙ h.0) places,
  )
    where
      more : suc n ≡ n + 1
      more = omega arith

  -- a part with more than one place has another
  pub another_place : (D : DocumentState T) (p : Place) (n : ℕ) → 1 < n → PartHasPlaces D p n
      → (q : Place) × IsOther p q × (part_in D q ≡ part_in D p)
  another_place D p zero some all = absurd (omega (arith, some))
  another_place D p (suc zero) some all = absurd (omega (arith, some))
  another_place D p (suc (suc n)) some k = ⊎_elim
      (λ one. (place_at k.2.0, λ e. k.2.1.1 (sym e ∙ sym one), k.2.1.0))
      (λ two. (place_at k.0, λ e. two (sym e), k.1))
      (one_or_two k.0 (id_in p))

-- Tables that are made of a store with values, and rows of components.
use Rattle.entity_table.proofs.Keeping.Common.{component_in, IsTableKept, element_in, Entity, TableState, by_number, by_option, key_cases, name_of, GenerationalPointer, IsSound}
use Rattle.entity_table.proofs.Keeping.Common.{State, value_in, Location, same_id_sees, seen_store, IsSimple, listed_every, listed_rise, listed_shown, put_here, put_lost}
use Rattle.entity_table.proofs.Keeping.Common.{set_apart, at_slot, id_in, IsOther, IsSame, pointer_in, slot_in, listed, MapState, row_at, value_of}
use Rattle.entity_table.proofs.Keeping.Common.{SiteState, TellsLocation, told_at, told_in, Row, Held, Vacant, ap, arith, Bool, false, length}
use Rattle.entity_table.proofs.Keeping.Common.{List, map, None, Option, refl, Some, subst, suc, sym, true, zero, ℕ}
use Rattle.entity_table.proofs.Keeping.Common.{[], ⊎_elim, ◌+◌, ◌<◌, ◌∙◌, ◌∷◌, ◌≡◌, ◌≤◌, length-map, AllPairs-from_increasing, same_Some}
use Rattle.entity_table.proofs.Keeping.Common.{slice_get-map, option_map, GenerationalBoxId, EntityKind, map-map, ◌≢◌, IsStrictlyIncreasing, is_some, slice_get, slice_set}
use Rattle.entity_table.proofs.Keeping.Common.{AllPairs, IsAt, IfSome, slice_get_within}
use Rattle.entity_table.proofs.Keeping.{no_value, one_or_two, same_component, tells_here}
use Rattle.entity_table.specs.Parts.{AreRows, AreEntitiesSited, component_told, is_row_of}
use Rattle.generational_core.specs.Keeping.{box_with}
use Rattle.generational_core.specs.Slots.{last_name}
use Rattle.std.proofs.Common.{◌++◌}
use Rattle.std.specs.FinMap as finite
use Rattle.handles.proofs.Maps.{listed_at, listed_row, with_ids}
use Rattle.handles.specs.Maps.{handle_of}
use Rattle.std.proofs.lemmas.Option.{get_or_from_slice_get}
use Rattle.std.specs.Prelude.{IfNone}
use Rattle.std.specs.List.{slice_index}

-- ==== the cells of a store

module _ {T : Type 0} (S : State T) where
  -- the cell of a box that is found is the store's, and live
  pub found_live : (b : GenerationalPointer) → box_with S b.id ≡ Some b
      → (b.id.store ≡ S.number) × (is_some (finite.get S.cells (name_of b)) ≡ true)
  found_live b is = grind arith

  -- two that are found at one slot are one
  pub one_cell : IsSimple S → (b c : GenerationalPointer) → box_with S b.id ≡ Some b → box_with S c.id ≡ Some c
      → b.id.slot ≡ c.id.slot → b ≡ c
  one_cell simple b c has found slot =
      let first = found_live b has in
      let second = found_live c found in
      let names = simple.bounded.last (name_of b) first.1 in
      let others = simple.bounded.last (name_of c) second.1 in
      let one : name_of b ≡ name_of c = names ∙ (ap (last_name S) slot ∙ sym others) in
      let same : b.id ≡ c.id = grind (arith, first.0, second.0, one) in
      same_Some b c (sym has ∙ (ap (box_with S) same ∙ found))

-- ==== rows that were made of cells

-- a location has its site also among more
pub still_at : (list more : List Location) (site : ℕ) (l : Location)
    → ((i : ℕ) (k : Location) → slice_get list i ≡ Some k → slice_get more i ≡ Some k) → IsAt list site l → IsAt more site l
still_at list more site l kept at = record { kept = at.kept; there = kept site at.kept at.there; alike = at.alike }

module _ {T : Type 0} (S : State T) (cells : List GenerationalPointer) where
  -- the first k cells have their rows, at their sites, and there are no others
  pub record AreGiven (k : ℕ) (all : List Location) (rows : MapState (Unit {0})) : Type 0 where
    pub held : (i : ℕ) (b : GenerationalPointer) → i < k → slice_get cells i ≡ Some b
        → (site : ℕ) × (row_at rows.rows b.id.slot ≡ Held site b.id.generation tt)
    pub only : (slot site generation : ℕ) → row_at rows.rows slot ≡ Held site generation tt
        → (b : GenerationalPointer) × (box_with S b.id ≡ Some b) × (is_some (value_in S b) ≡ true)
        × (b.id.slot ≡ slot) × (b.id.generation ≡ generation) × IsAt all site b.created_at

  pub given_none : (number : ℕ) (all : List Location) → AreGiven 0 all (record { number = number; rows = [] })
  given_none number all = record {
    held = λ i b lt is. absurd (omega (arith, lt));
    only = λ slot site generation is. absurd (vacant slot site generation is);
  }
    where
      vacant : (slot site generation : ℕ) → row_at {V = Unit {0}} [] slot ≡ Held site generation tt → ⊥
      vacant slot site generation is = cc

  module _ (simple : IsSimple S)
      (live : (i : ℕ) (b : GenerationalPointer) → slice_get cells i ≡ Some b
      → (box_with S b.id ≡ Some b) × (is_some (value_in S b) ≡ true)) where
    pub given_more : (k : ℕ) (all more : List Location) (rows next : MapState (Unit {0})) → AreGiven k all rows
        → (c : GenerationalPointer) → slice_get cells k ≡ Some c
        → (put : (site : ℕ) × (row_at next.rows c.id.slot ≡ Held site c.id.generation tt) × IsAt more site c.created_at)
        → ((slot : ℕ) → slot ≢ c.id.slot → row_at next.rows slot ≡ row_at rows.rows slot)
        → ((i : ℕ) (l : Location) → slice_get all i ≡ Some l → slice_get more i ≡ Some l)
        → AreGiven (k + 1) more next
    given_more k all more rows next given c here put others kept = record {
      held = λ i b lt is. ⊎_elim
          (λ same. (
            put.0,
            subst (λ (d : GenerationalPointer). row_at next.rows d.id.slot ≡ Held put.0 d.id.generation tt)
                (sym (one_cell S simple b c (live i b is).0 (live k c here).0 same)) put.1,
          ))
          (λ apart.
          let old = given.held i b (before i b lt is apart) is in (old.0, others b.id.slot apart ∙ old.1))
          (key_cases by_number b.id.slot c.id.slot);
      only = λ slot site generation is. ⊎_elim
          (λ same.
          let here_row = sym put.1 ∙ (ap (row_at next.rows) (sym same) ∙ is) in (
            c,
            (live k c here).0,
            (live k c here).1,
            sym same,
            held_generation put.0 c.id.generation site generation here_row,
            subst (λ s. IsAt more s c.created_at) (held_site put.0 c.id.generation site generation here_row) put.2,
          ))
          (λ apart.
          let old = given.only slot site generation (sym (others slot apart) ∙ is) in
          (old.0, old.1, old.2, old.3, old.4, still_at all more site old.0.created_at kept old.5))
          (key_cases by_number slot c.id.slot);
    }
      where
        before : (i : ℕ) (b : GenerationalPointer) → i < k + 1 → slice_get cells i ≡ Some b → b.id.slot ≢ c.id.slot → i < k
        before i b lt is apart = ⊎_elim
            (λ same. absurd (apart (ap (λ d. d.id.slot) (same_Some b c (sym is ∙ (ap (slice_get cells) same ∙ here))))))
            (λ other. omega (arith, lt, other)) (key_cases by_number i k)

        held_site : (s g t h : ℕ) → ◌≡◌ {A = Row (Unit {0})} (Held s g tt) (Held t h tt) → s ≡ t
        held_site s g t h is = cc

        held_generation : (s g t h : ℕ) → ◌≡◌ {A = Row (Unit {0})} (Held s g tt) (Held t h tt) → g ≡ h
        held_generation s g t h is = cc

    module _ (every : (b : GenerationalPointer) → is_some (value_in S b) ≡ true
        → (i : ℕ) × (c : GenerationalPointer) × (slice_get cells i ≡ Some c) × (c.id ≡ b.id))
        (sound : IsSound S) (all : List Location) (rows : MapState (Unit {0})) (own : rows.number ≡ S.number) (k : ℕ)
        (whole : length cells ≤ k) (given : AreGiven k all rows) where
      -- what is held is live, and what is live is held
      live_held : (e : Entity T) → is_some (value_of rows e) ≡ true → is_some (value_in S (pointer_in e)) ≡ true
      live_held e is = by (row_at rows.rows (slot_in e)) refl
        where
          by : (r : Row (Unit {0})) → row_at rows.rows (slot_in e) ≡ r → is_some (value_in S (pointer_in e)) ≡ true
          by Vacant at = absurd (none at is)
            where
              none : row_at rows.rows (slot_in e) ≡ Vacant → is_some (value_of rows e) ≡ true → ⊥
              none at is = grind arith
          by (Held site generation u) at =
              let it = given.only (slot_in e) site generation at in
              let store = (found_live S it.0 it.1).0 in
              let number : e.store ≡ rows.number = grind arith in
              let same : generation ≡ e.generation = grind arith in
              sym (ap is_some (same_id_sees S it.0 (pointer_in e) (grind (arith, store, number, same, own, it.3, it.4)))) ∙ it.2

      held_live : (e : Entity T) → is_some (value_in S (pointer_in e)) ≡ true → is_some (value_of rows e) ≡ true
      held_live e seen =
          let it = every (pointer_in e) seen in
          let row = given.held it.0 it.1 (omega (arith, slice_get_within cells it.0 it.1 it.2, whole)) it.2 in
          let store = seen_store S (pointer_in e) sound seen in
          let at : row_at rows.rows (slot_in e) ≡ Held row.0 e.generation tt =
          ap (row_at rows.rows) (ap (λ i. i.slot) (sym it.3)) ∙ (row.1 ∙ ap (λ g. Held row.0 g tt) (ap (λ i. i.generation) it.3)) in
          grind (arith, at, store, own)

      pub given_kept : IsTableKept S rows
      given_kept = record {
        simple = simple;
        number = own;
        same = λ e. same_bool (is_some (value_of rows e)) (is_some (value_in S (pointer_in e))) (live_held e) (held_live e);
      }
        where
          same_bool : (a b : Bool) → (a ≡ true → b ≡ true) → (b ≡ true → a ≡ true) → a ≡ b
          same_bool true b h k = sym (h refl)
          same_bool false true h k = k refl
          same_bool false false h k = refl

      pub given_sited : AreEntitiesSited S all rows
      given_sited slot site generation is =
          let it = given.only slot site generation is in (it.0, it.1, it.3, it.4, it.5)

-- ==== the locations of the table's handles

-- an element of a list that is mapped
mapped : {A B : Type 0} (f : A → B) (xs : List A) (i : ℕ) (y : B) → slice_get (map f xs) i ≡ Some y
    → (x : A) × (f x ≡ y) × (slice_get xs i ≡ Some x)
mapped f [] i y is = cc
mapped f (x ∷ xs) zero y is = (x, same_Some _ _ is, refl)
mapped f (x ∷ xs) (suc i) y is = mapped f xs i y is

module _ {T : Type 0} where
  -- each row has the location where its cell was made
  pub rows_tell : {S : State T} {m : MapState (Unit {0})} (k : IsTableKept S m) (u : List Location) → AreEntitiesSited S u m
      → (v : SiteState) → v.all ≡ u → v.told ≡ length u
      → (row : ℕ) (e : Entity T) (b : GenerationalPointer) → slice_get (map (λ (p : Entity T × Unit {0}). p.0) (listed m)) row ≡ Some e
      → box_with S (id_in e) ≡ Some b → TellsLocation (told_at S.number (told_in v) e) b.created_at
  rows_tell {S} {m} k u sited v all told row e b is found =
      let from = mapped (λ (p : Entity T × Unit {0}). p.0) (listed m) row e is in
      let h = from.0.0 in
      let at = listed_at m.number 0 m.rows row h from.0.1 from.2 in
      let it = sited at.0 h.site h.generation at.3 in
      let own : h.store ≡ S.number = at.2 ∙ k.number in
      let same : it.0.id ≡ id_in h = grind (arith, (found_live S it.0 it.1).0, own, it.2, it.3, at.1) in
      let cell : it.0 ≡ b =
      same_Some it.0 b (sym it.1 ∙ (ap (box_with S) same ∙ (ap (λ f. box_with S (id_in f)) from.1 ∙ found))) in
      let lt = slice_get_within u h.site it.4.kept it.4.there in
      subst (λ f. TellsLocation (told_at S.number (told_in v) f) b.created_at) from.1
      (subst (λ (d : GenerationalPointer). TellsLocation (told_at S.number (told_in v) h) d.created_at) cell
      (tells_here S.number v h it.0.created_at own (omega (arith, told, lt))
      (subst (λ list. IsAt list h.site it.0.created_at) (sym all) it.4)))

  -- the handle of a slot's row is listed
  pub find_listed : (m : MapState (Unit {0})) (slot : ℕ) (e : Entity T) → Some e ≡ handle_of m.number slot (row_at m.rows slot)
      → (row : ℕ) × (slice_get (map (λ (p : Entity T × Unit {0}). p.0) (listed m)) row ≡ Some e)
  find_listed m slot e is = by (row_at m.rows slot) refl is
    where
      by : (r : Row (Unit {0})) → row_at m.rows slot ≡ r → Some e ≡ handle_of m.number slot r
          → (row : ℕ) × (slice_get (map (λ (p : Entity T × Unit {0}). p.0) (listed m)) row ≡ Some e)
      by Vacant at is = cc
      by (Held site generation u) at is =
          let there = listed_row {T = T} {K = EntityKind} m.number 0 m.rows slot site generation u at in
          let same : at_slot m.number (0 + slot) site generation ≡ e =
          ap (λ k. at_slot m.number k site generation) (omega arith) ∙ sym (same_Some _ _ is) in (
            there.0,
            slice_get-map (λ (p : Entity T × Unit {0}). p.0) (listed m) there.0
                ∙ (ap (option_map (λ p. p.0)) there.1 ∙ ap Some same),
          )

-- what is known of an option that is None, and of one that isn't
pub from_none : {X : Type 0} (o : Option X) (Q : Type 0) → o ≡ None → IfNone o Q → Q
from_none None Q is q = q
from_none (Some x) Q is q = cc

pub from_found : {X : Type 0} (o : Option X) (P Q : X → Type 0) → is_some o ≡ true → IfSome o P → IfSome o Q
    → (x : X) × P x × Q x
from_found None P Q is p q = cc
from_found (Some x) P Q is p q = (x, p, q)

some_none : {X : Type 0} (x : X) → Some x ≡ None → ⊥
some_none x is = cc

-- lists of which one element is between two others
pub push_first : {X : Type 0} (left : List X) (x : X) (done : List X) → (left ++ x ∷ []) ++ done ≡ left ++ x ∷ done
push_first [] x done = refl
push_first (y ∷ left) x done = ap (λ xs. y ∷ xs) (push_first left x done)

pub between : {X : Type 0} (left : List X) (x : X) (done : List X) → slice_get (left ++ x ∷ done) (length left) ≡ Some x
between [] x done = refl
between (y ∷ left) x done = between left x done

-- ==== rows of components

found_at : {X : Type 0} (xs : List X) (k : ℕ) → k < length xs → (x : X) × (slice_get xs k ≡ Some x)
found_at [] k lt = absurd (omega (arith, lt))
found_at (x ∷ xs) zero lt = (x, refl)
found_at (x ∷ xs) (suc k) lt = found_at xs k (omega (arith, lt))

index_map : {X : Type 0} (f : X → ℕ) (xs : List X) (k : ℕ) (x : X) → slice_get xs k ≡ Some x → slice_index (map f xs) k ≡ f x
index_map f [] k x is = cc
index_map f (y ∷ xs) zero x is = ap f (same_Some y x is)
index_map f (y ∷ xs) (suc k) x is = index_map f xs k x is

pub ids_rise : (T : Type 0) {C : Type 0} (m : MapState C)
    → IsStrictlyIncreasing (map (λ (r : GenerationalBoxId × C). r.0.slot) (with_ids T EntityKind (listed m)))
ids_rise T {C} m = subst IsStrictlyIncreasing
    (sym (map-map (λ (r : GenerationalBoxId × C). r.0.slot) (λ (p : Entity T × C). (id_in p.0, p.1)) (listed m)))
    (listed_rise T EntityKind m)

module _ {C : Type 0} where
  -- a row's slot is below those of the rows after it
  after_it : (left : List (GenerationalBoxId × C)) (x : GenerationalBoxId × C) (done : List (GenerationalBoxId × C))
      → AllPairs (λ a b. a < b) (map (λ r. r.0.slot) (left ++ x ∷ done))
      → (i : ℕ) (r : GenerationalBoxId × C) → slice_get done i ≡ Some r → x.0.slot < r.0.slot
  after_it [] x done rise i r is =
      let within = slice_get_within done i r is in
      let lt = rise 0 (suc i) 0 (omega arith) (omega (arith, within, length-map done (λ (q : GenerationalBoxId × C). q.0.slot))) in
      subst (λ n. x.0.slot < n) (get_or_from_slice_get (map (λ (q : GenerationalBoxId × C). q.0.slot) done) i r.0.slot 0
      (slice_get-map (λ (q : GenerationalBoxId × C). q.0.slot) done i ∙ ap (option_map (λ q. q.0.slot)) is)) lt
  after_it (y ∷ left) x done rise i r is =
      after_it left x done (λ i j d lt within. rise (suc i) (suc j) d (omega (arith, lt)) (omega (arith, within))) i r is

  pub rise_all : (rows : List (GenerationalBoxId × C)) (n : ℕ) → length rows ≤ n
      → ((k : ℕ) (q r : GenerationalBoxId × C) → k + 1 < n → slice_get rows k ≡ Some q → slice_get rows (k + 1) ≡ Some r
      → q.0.slot < r.0.slot)
      → IsStrictlyIncreasing (map (λ r. r.0.slot) rows)
  rise_all rows n all rise k within =
      let lt : k + 1 < length rows = omega (arith, within, length-map rows (λ (r : GenerationalBoxId × C). r.0.slot)) in
      let q = found_at rows k (omega (arith, lt)) in
      let r = found_at rows (k + 1) lt in
      omega (
        arith,
        rise k q.0 r.0 (omega (arith, lt, all)) q.1 r.1,
        index_map (λ (r : GenerationalBoxId × C). r.0.slot) rows k q.0 q.1,
        index_map (λ (r : GenerationalBoxId × C). r.0.slot) rows (k + 1) r.0 r.1,
      )

  pub rise_more : (rows : List (GenerationalBoxId × C)) (row : ℕ) (r : GenerationalBoxId × C)
      → ((k : ℕ) (q s : GenerationalBoxId × C) → k + 1 < row → slice_get rows k ≡ Some q → slice_get rows (k + 1) ≡ Some s
      → q.0.slot < s.0.slot)
      → slice_get rows row ≡ Some r
      → ((before : ℕ) (q : GenerationalBoxId × C) → row ≡ before + 1 → slice_get rows before ≡ Some q → q.0.slot < r.0.slot)
      → (k : ℕ) (q s : GenerationalBoxId × C) → k + 1 < row + 1 → slice_get rows k ≡ Some q → slice_get rows (k + 1) ≡ Some s
      → q.0.slot < s.0.slot
  rise_more rows row r rise there last k q s lt first second = ⊎_elim
      (λ same.
      let one : r ≡ s = same_Some r s (sym there ∙ (ap (slice_get rows) (sym same) ∙ second)) in
      subst (λ (x : GenerationalBoxId × C). q.0.slot < x.0.slot) one (last k q (sym same) first))
      (λ other. rise k q s (omega (arith, lt, other)) first second)
      (key_cases by_number (k + 1) row)

module _ {T C : Type 0} where
  row_is : (r : GenerationalBoxId × C) (e : Entity T) → is_row_of r e ≡ true → r.0 ≡ id_in e
  row_is r e is = grind arith

  row_of : (r : GenerationalBoxId × C) (e : Entity T) → r.0 ≡ id_in e → is_row_of r e ≡ true
  row_of r e is = grind arith

  -- what rows list for an entity is in one of them, and in none if they list nothing
  told_sees : (rows : List (GenerationalBoxId × C)) (e : Entity T) (c : C) → component_told rows e ≡ Some c
      → (i : ℕ) × (r : GenerationalBoxId × C) × (slice_get rows i ≡ Some r) × (r.0 ≡ id_in e) × (r.1 ≡ c)
  told_sees [] e c is = cc
  told_sees (r ∷ rows) e c is = by (is_row_of r e) refl (told_sees rows e c)
    where
      Found : Type 0
      Found = (i : ℕ) × (q : GenerationalBoxId × C) × (slice_get (r ∷ rows) i ≡ Some q) × (q.0 ≡ id_in e) × (q.1 ≡ c)

      by : (b : Bool) → is_row_of r e ≡ b → (component_told rows e ≡ Some c
          → (i : ℕ) × (q : GenerationalBoxId × C) × (slice_get rows i ≡ Some q) × (q.0 ≡ id_in e) × (q.1 ≡ c)) → Found
      by true own rest = (0, r, refl, row_is r e own, same_Some r.1 c (rw own at is))
      by false other rest = let it = rest (rw other at is) in (suc it.0, it.1, it.2, it.3, it.4)

  told_none : (rows : List (GenerationalBoxId × C)) (e : Entity T) → component_told rows e ≡ None
      → (i : ℕ) (r : GenerationalBoxId × C) → slice_get rows i ≡ Some r → r.0 ≡ id_in e → ⊥
  told_none [] e none i r is same = cc
  told_none (q ∷ rows) e none zero r is same = some_none q.1
      (rw (row_of q e (ap (λ (x : GenerationalBoxId × C). x.0) (same_Some q r is) ∙ same)) at none)
  told_none (q ∷ rows) e none (suc i) r is same = by (is_row_of q e) refl (told_none rows e)
    where
      by : (b : Bool) → is_row_of q e ≡ b → (component_told rows e ≡ None → (i : ℕ) (r : GenerationalBoxId × C)
          → slice_get rows i ≡ Some r → r.0 ≡ id_in e → ⊥) → ⊥
      by true own rest = some_none q.1 (rw own at none)
      by false other rest = rest (rw other at none) i r is same

  -- a map's own rows list what it has
  pub told_listed : (m : MapState C) (e : Entity T) → component_told (with_ids T EntityKind (listed m)) e ≡ value_of m e
  told_listed m e = by_option (component_told (with_ids T EntityKind (listed m)) e)
      (λ none. by_option (value_of m e) (λ no. none ∙ sym no) (λ v is.
      let at = listed_every m e v is in
      absurd (told_none (with_ids T EntityKind (listed m)) e none at.0 (id_in at.1, v)
      (slice_get-map (λ (p : Entity T × C). (id_in p.0, p.1)) (listed m) at.0 ∙ ap (option_map (λ p. (id_in p.0, p.1))) at.2) at.3)))
      (λ c some.
      let at = told_sees (with_ids T EntityKind (listed m)) e c some in
      let from = mapped (λ (p : Entity T × C). (id_in p.0, p.1)) (listed m) at.0 at.1 at.2 in
      let shown = listed_shown m at.0 from.0.0 from.0.1 from.2 in
      let same : IsSame from.0.0 e = ap (λ (r : GenerationalBoxId × C). r.0) from.1 ∙ at.3 in
      let value : from.0.1 ≡ c = ap (λ (r : GenerationalBoxId × C). r.1) from.1 ∙ at.4 in
      some ∙ (ap Some (sym value) ∙ (sym shown ∙ same_component m from.0.0 e same)))

  -- and each of them is what an entity has
  pub each_listed : (m : MapState C) (row : ℕ) (r : GenerationalBoxId × C)
      → slice_get (with_ids T EntityKind (listed m)) row ≡ Some r
      → (e : Entity T) × (id_in e ≡ r.0) × (component_in m e ≡ Some r.1)
  each_listed m row r is =
      let from = mapped (λ (p : Entity T × C). (id_in p.0, p.1)) (listed m) row r is in (
        from.0.0,
        ap (λ (q : GenerationalBoxId × C). q.0) from.1,
        listed_shown m row from.0.0 from.0.1 from.2 ∙ ap (λ (q : GenerationalBoxId × C). Some q.1) from.1,
      )

  -- ---- rows that are moved into a map, the last one first

  pub filled_more : (m next : MapState C) (left done : List (GenerationalBoxId × C)) (x : GenerationalBoxId × C) (entity : Entity T)
      → IsStrictlyIncreasing (map (λ r. r.0.slot) (left ++ x ∷ done)) → id_in entity ≡ x.0 → entity.store ≡ m.number
      → slot_in entity < length m.rows → next.number ≡ m.number
      → next.rows ≡ slice_set m.rows (slot_in entity) (Held entity.site entity.generation x.1)
      → ((e : Entity T) → value_of m e ≡ component_told done e)
      → (e : Entity T) → value_of next e ≡ component_told (x ∷ done) e
  filled_more m next left done x entity rise own store lt number put shown e = ⊎_elim
      (λ same.
      let here : value_of next entity ≡ Some x.1 = rw is_next (put_here m.number m.rows entity x.1 store lt) in
      let listed_here : component_told (x ∷ done) e ≡ Some x.1 = rw (row_of x e (sym own ∙ same)) refl in
      sym (same_component next entity e same) ∙ (here ∙ sym listed_here))
      (λ other. ⊎_elim
      (λ slot.
      let lost : value_of next e ≡ None = rw is_next (put_lost m.number m.rows entity e x.1 store lt slot other) in
      lost ∙ (sym (no_value (component_told done e) (later slot)) ∙ sym (beside other)))
      (λ apart.
      let kept : value_of next e ≡ value_of m e =
      rw is_next (set_apart m.number m.rows entity e (Held entity.site entity.generation x.1) apart) in
      kept ∙ (shown e ∙ sym (beside other)))
      (key_cases by_number (slot_in entity) (slot_in e)))
      (one_or_two entity e)
    where
      is_next : next ≡ record { number = m.number; rows = slice_set m.rows (slot_in entity) (Held entity.site entity.generation x.1) }
      is_next = λ j. record { number = number j; rows = put j }

      beside : IsOther entity e → component_told (x ∷ done) e ≡ component_told done e
      beside other = by (is_row_of x e) refl
        where
          by : (b : Bool) → is_row_of x e ≡ b → component_told (x ∷ done) e ≡ component_told done e
          by true is = absurd (other (own ∙ row_is x e is))
          by false is = rw is refl

      later : slot_in entity ≡ slot_in e → (c : C) → component_told done e ≡ Some c → ⊥
      later slot c is =
          let at = told_sees done e c is in
          let below = after_it left x done (AllPairs-from_increasing (map (λ (r : GenerationalBoxId × C). r.0.slot) (left ++ x ∷ done)) rise) at.0 at.1 at.2 in
          omega (arith, below, slot, ap (λ i. i.slot) own, ap (λ i. i.slot) at.3)

  -- the rows so far, with one more
  pub live_more : (t : TableState T) (rows : List (GenerationalBoxId × C)) (row : ℕ) (r : GenerationalBoxId × C)
      → ((k : ℕ) (q : GenerationalBoxId × C) → k < row → slice_get rows k ≡ Some q
      → (e : Entity T) × (id_in e ≡ q.0) × (is_some (element_in t e) ≡ true))
      → slice_get rows row ≡ Some r → ((e : Entity T) × (id_in e ≡ r.0) × (is_some (element_in t e) ≡ true))
      → (k : ℕ) (q : GenerationalBoxId × C) → k < row + 1 → slice_get rows k ≡ Some q
      → (e : Entity T) × (id_in e ≡ q.0) × (is_some (element_in t e) ≡ true)
  live_more t rows row r before there live k q lt is = ⊎_elim
      (λ same.
      let one : r ≡ q = same_Some r q (sym there ∙ (ap (slice_get rows) (sym same) ∙ is)) in
      (live.0, live.1 ∙ ap (λ (x : GenerationalBoxId × C). x.0) one, live.2))
      (λ other. before k q (omega (arith, lt, other)) is)
      (key_cases by_number k row)

  -- rows that fit rise at each place
  pub falls : {t : TableState T} {rows : List (GenerationalBoxId × C)} → AreRows t rows
      → (row before : ℕ) (q r : GenerationalBoxId × C) → row ≡ before + 1 → slice_get rows before ≡ Some q
      → slice_get rows row ≡ Some r → r.0.slot ≤ q.0.slot → ⊥
  falls {t} {rows} fits row before q r is first second low =
      let next : slice_get rows (before + 1) ≡ Some r = ap (slice_get rows) (sym is) ∙ second in
      let lt = fits.ordered before (omega (
        arith,
        slice_get_within rows (before + 1) r next,
        length-map rows (λ (x : GenerationalBoxId × C). x.0.slot),
      )) in
      omega (
        arith,
        lt,
        low,
        index_map (λ (x : GenerationalBoxId × C). x.0.slot) rows before q first,
        index_map (λ (x : GenerationalBoxId × C). x.0.slot) rows (before + 1) r next,
      )

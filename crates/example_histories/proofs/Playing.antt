-- Rows, computed from states that are written out.
use Rattle.example_histories.proofs
use proofs.Common.{act, Action, Answer, ap, arith, Bool, by_number, Cell, change, cond}
use proofs.Common.{contains-insert_name, drop, false, find, fresh, Guard, Here, hindrance_to, inl}
use proofs.Common.{inr, is_sorted, limit_tickets, List, Location, Name, name_cmp, Names, nat_cmp}
use proofs.Common.{NewNames, not, NumbersExhausted, Option, Outcome, owner, Ownership, put, reach}
use proofs.Common.{refl, refusal_to_read, refusal_to_write, Refused, Shared, Some, State, subst}
use proofs.Common.{sym, take, take-append-drop, true, ℕ, [], ⊎_elim, ◌++◌, ◌||◌, ◌↔◌, ◌∙◌, ◌∷◌, ◌≡◌}
use proofs.Entries.{entries, get_there, put_there}
use Rattle.example_histories.specs.Rows.{counted, guard, Row, Tells, Told}
use Rattle.example_histories.specs.Rows.Line.{Ask, Call, Count, Open}
use Rattle.example_histories.specs.Rows.Told.{Lacks, Opens, Says}
use Rattle.generational_core.proofs.machine.{lasts_insert}
use Rattle.generational_core.proofs.machine.Calls.Steps.{fresh_sound, meets_sound}
pub use Rattle.generational_core.proofs.machine.{no_slots}
use Rattle.generational_core.specs
use specs.Machine.Action.{End, LeakOwner, Make, MakeShared, NewOwner, Read, Refer, Write}
use specs.Steps.{AreNew, IsNew, last_ticket, may_lack, needs_memory, no_names, Takes, takes_ticket}
use specs.{Machine.add_cell, declared.borrow.Borrow.Borrow, Ending.close, Cells.Content}
use specs.{Machine.Answer.Done, Slots.free, declared.boxes.GenerationalPointer.GenerationalPointer}
use specs.{Slots.is_free, State.IsSound, Slots.last_name, Slots.lasts, Cells.Content.Lent}
use specs.{Machine.Answer.Made, Boxes.name_of, Names.NameMap, Machine.Answer.Owned, State.Owners}
use specs.{Machine.read_at, Machine.Answer.Reads, Cells.refill, Slots.slots, Slots.slots_of}
use specs.{Machine.unless, Answers.value_behind, Machine.write_at, Machine.Answer.Writes}
use Rattle.std.proofs.{lemmas.Bool.and_parts, Common.◌+◌}
use Rattle.std.specs.Prelude.{max, nat_eq, unwrap_or, ◌&&◌}
use Rattle.std.specs.FinMap as map
use Rattle.std.specs.FinSet as set

-- ---- names, as they are computed

module _ {T : Type 0} where
  abbrev pub fits : State T → Name → Bool
  fits S n = (nat_eq (free S) 0 && (nat_eq n.slot (slots S) && nat_eq n.generation S.start))
      || (map.contains_key (slots_of S) n.slot && (is_free S n.slot
      && nat_eq n.generation ((last_name S n.slot).generation + 1)))

  abbrev pub is_new : State T → Name → Bool
  is_new S n = not (set.contains S.given n) && fits S n

  abbrev pub are_new : State T → Action T → NewNames → Bool
  are_new S (Make o v l) f = is_new S f.first
  are_new S (MakeShared o v l) f =
      is_new S f.first && is_new (add_cell S f.first (Shared (Here v []) l)) f.second
  are_new S (Refer o b) f = is_new S f.first
  are_new S _ f = true

  abbrev pub takes : State T → Action T → Answer T → NewNames → Bool
  takes S a (Made b) f = are_new S a f
  takes S a _ f = true

  -- what is computed is so
  new_name : (S : State T) (n : Name) → is_new S n ≡ true → IsNew S n
  new_name S n h = grind arith

  new_names : (S : State T) (a : Action T) (f : NewNames) → are_new S a f ≡ true → AreNew S a f
  new_names S (MakeShared o v l) f h =
      let both = and_parts (is_new S f.first) _ h in
      (new_name S f.first both.0, new_name _ f.second both.1)
  new_names S a f h = grind (arith, new_name)

  pub taken : (S : State T) (a : Action T) (answer : Answer T) (f : NewNames)
      → takes S a answer f ≡ true → Takes S a answer f
  taken S a answer f h = grind (arith, new_names)

-- a row that is computed: names are tested, and soundness follows
unfoldable pub Plays : {T : Type 0} → State T → Row T → Type 0
Plays S [] = Unit {0}
Plays {T} S ((Call a f, told) ∷ row) =
    let out : Outcome T = limit_tickets S (act S a f) in
    (Says out.0 ≡ told) × (takes S a out.0 f ≡ true) × Plays out.1 row
Plays S ((Ask a, told) ∷ row) = (Lacks (may_lack S a) ≡ told) × Plays S row
Plays S ((Open g, told) ∷ row) = (Opens (value_behind S g) ≡ told) × Plays S row
Plays S ((Count, told) ∷ row) = (counted S ≡ told) × Plays S row

-- such a row says what is there
tells : {T : Type 0} (S : State T) (row : Row T) → IsSound S → Plays S row → Tells S row
unfolding Tells Plays
tells S [] s h = tt
tells {T} S ((Call a f, told) ∷ row) s h =
    let out : Outcome T = limit_tickets S (act S a f) in
    let new = taken S a out.0 f h.1 in
    let sound = meets_sound S out.1 a out.0 s (inl (f, new, refl)) in
    (h.0, new, sound, tells out.1 row sound h.2)
tells S ((line, told) ∷ row) s h = (h.0, tells S row s h.1)

pub plays_tell : {T : Type 0} (start next : ℕ) (row : Row T)
    → Plays (fresh 7 start next) row → Tells (fresh 7 start next) row
plays_tell start next row h = tells _ row (fresh_sound 7 start next) h

-- ---- the slots

-- the last generations with another name, and what is in them
pub adds : map.FinMap nat_cmp ℕ → Name → map.FinMap nat_cmp ℕ
adds m n = map.insert m n.slot (max n.generation (unwrap_or (map.get m n.slot) 0))

abbrev pub add_slot : List (ℕ × ℕ) → Name → List (ℕ × ℕ)
add_slot es n = put nat_cmp n.slot (max n.generation (unwrap_or (find nat_cmp n.slot es) 0)) es

pub adds_there : (es : List (ℕ × ℕ)) (n : Name) → is_sorted nat_cmp es ≡ true
    → adds (map.from_sorted es) n ≡ map.from_sorted (add_slot es n)
unfolding adds
adds_there es n h =
    ap (λ x. map.insert (map.from_sorted es) n.slot (max n.generation (unwrap_or x 0)))
    (get_there nat_cmp es h n.slot) ∙ put_there nat_cmp es h _ _ by_number

-- the slots after another name was issued; and after none was, and one more, from the law of them
pub more_given : (given : Names) (n : Name)
    → lasts (set.items (set.insert given n)) ≡ adds (lasts (set.items given)) n
unfolding adds
more_given = lasts_insert

pub none_by : lasts (set.items (set.empty {R = name_cmp})) ≡ lasts []
    → lasts (set.items (set.empty {R = name_cmp})) ≡ map.empty
unfolding lasts
none_by law = law

pub more_by : ((given : Names) (n : Name)
    → lasts (set.items (set.insert given n)) ≡ lasts (n ∷ set.items given))
    → (given : Names) (n : Name)
    → lasts (set.items (set.insert given n)) ≡ adds (lasts (set.items given)) n
unfolding lasts adds
more_by law = law

-- ---- calls, from states that are written out

-- a record of one owner value, a reader, and the name of a box of this store
abbrev pub one_owner : List Name → Ownership
one_owner names = record { names = names; count = 1 }

abbrev pub reader : ℕ → Location → Borrow
reader t l = record { ticket = t; location = l }

abbrev pub own_names : GenerationalPointer → List Name
own_names b = cond (nat_eq b.id.store 7) (name_of b ∷ []) []

-- what is so, is so
pub is_same : {P : Type 0} → P ↔ P
is_same = (λ h. h, λ h. h)

module _ {T : Type 0} where
  abbrev pub stage_of : ℕ → NameMap (Cell T) → Names → Owners → ℕ → ℕ → State T
  stage_of start cells given owners next peak = record {
    number = 7;
    cells = cells;
    given = given;
    owners = owners;
    next = next;
    peak = peak;
    start = start;
  }

  -- a state whose maps are written out
  abbrev pub stage : ℕ → List (Name × Cell T) → Names → List (ℕ × Ownership) → ℕ → ℕ → State T
  stage b c g o n p = stage_of b (map.from_sorted c) g (map.from_sorted o) n p

  -- an outcome, and what it comes to
  abbrev pub OutcomeOf : Outcome T → Type 0
  OutcomeOf x = (y : Outcome T) × (x ≡ y)

  abbrev outcome_by : {x y : Outcome T} → ((z : Outcome T) → z ≡ x → z ≡ y) → OutcomeOf x
  outcome_by {x = x} {y = y} f = (y, f x refl)

  -- whether a call can't have its ticket, and what a row says after an outcome
  abbrev pub is_short : Answer T → ℕ → Bool
  is_short answer next = takes_ticket answer && nat_eq next last_ticket

  abbrev limit : Bool → State T → Action T → NewNames → Outcome T → Told T → Row T → Type 0
  limit b S a f out told row =
      let o : Outcome T = cond b (Refused NumbersExhausted, S) out in
      (Says o.0 ≡ told) × (takes S a o.0 f ≡ true) × Plays o.1 row

  pub hears : State T → Action T → NewNames → Outcome T → Told T → Row T → Type 0
  hears S a f out told row = limit (is_short out.0 S.next) S a f out told row

  -- what a row says after what was seen
  pub sees : Told T → Told T → State T → Row T → Type 0
  sees x told S row = (x ≡ told) × Plays S row

  module _ (b : ℕ) (c : List (Name × Cell T)) (g : Names) (o : List (ℕ × Ownership)) (n p : ℕ) where
    abbrev S : State T
    S = stage b c g o n p

    -- another reader and another writer, so that a borrow holds its ticket alone, and no state
    abbrev fill_in : Name → Content T → State T
    fill_in m x = stage_of b (change (map.from_sorted c) m (refill x)) g (map.from_sorted o) (n + 1) p

    abbrev pub read_to : Location → Option Name → Option (Content T) → Outcome T
    read_to l (Some m) (Some (Here v readers)) =
        (Reads (guard m n), fill_in m (Here v (readers ++ reader n l ∷ [])))
    read_to l _ _ = (Done, S)

    pub read_same : (l : Location) (x : Option Name) (y : Option (Content T))
        → read_at S l x y ≡ read_to l x y
    read_same l x y = grind arith

    abbrev pub write_to : Location → Option Name → Option (Content T) → Outcome T
    write_to l (Some m) (Some (Here v readers)) =
        (Writes (guard m n) v, fill_in m (Lent (reader n l)))
    write_to l _ _ = (Done, S)

    pub write_same : (l : Location) (x : Option Name) (y : Option (Content T))
        → write_at S l x y ≡ write_to l x y
    write_same l x y = grind arith

    -- what each call comes to, once it is looked up what is at its names
    module _ (hc : is_sorted name_cmp c ≡ true) (ho : is_sorted nat_cmp o ≡ true) where
      abbrev pub outcome : (a : Action T) (f : NewNames) → OutcomeOf (act S a f)
      unfolding reach refusal_to_read refusal_to_write
      outcome (Make by v l) f = (_, refl)
      outcome (MakeShared by v l) f = (_, refl)
      outcome (LeakOwner by) f = (_, refl)
      outcome NewOwner f =
          let more = map.insert (map.from_sorted o) n (one_owner []) in
          ((Owned (owner n), stage_of b (map.from_sorted c) g more (n + 1) p), refl)
      outcome (End x) f =
          (unless (hindrance_to S (own_names x)) S (Done, close S (own_names x)), refl)
      outcome (Read x l) f = outcome_by (λ z e. simp (read_same, get_there) at e)
      outcome (Write x l) f = outcome_by (λ z e. simp (write_same, get_there) at e)
      outcome a f = outcome_by (λ z e. simp get_there at e)

      pub calls : (a : Action T) (f : NewNames) (told : Told T) (row : Row T)
          → Plays S ((Call a f, told) ∷ row) ↔ hears S a f (outcome a f).0 told row
      unfolding hears Plays
      calls a f told row =
          subst (λ x. hears S a f (act S a f) told row ↔ hears S a f x told row) (outcome a f).1 is_same

      abbrev lacking : Action T → Told T → Row T → Outcome T → Type 0
      lacking a told row x = sees (Lacks (needs_memory S (limit_tickets S x).0 a)) told S row

      pub asks : (a : Action T) (told : Told T) (row : Row T)
          → Plays S ((Ask a, told) ∷ row) ↔ lacking a told row (outcome a no_names).0
      unfolding sees Plays may_lack
      asks a told row = subst (λ x. lacking a told row (act S a no_names) ↔ lacking a told row x)
          (outcome a no_names).1 is_same

    -- ---- the rules by which a row is computed

    pub ends : Plays S [] ↔ Unit {0}
    unfolding Plays
    ends = is_same

    pub hears_on : (R : State T) (a : Action T) (f : NewNames) (answer : Answer T) (row : Row T)
        → is_short answer R.next ≡ false → takes R a answer f ≡ true
        → hears R a f (answer, S) (Says answer) row ↔ Plays S row
    unfolding hears
    hears_on R a f answer row h new =
        subst (λ k. limit k R a f (answer, S) (Says answer) row ↔ Plays S row) (sym h)
        (λ h. h.2, λ p. (refl, new, p))

    pub hears_no : (a : Action T) (f : NewNames) (answer : Answer T) (R : State T) (row : Row T)
        → is_short answer n ≡ true
        → hears S a f (answer, R) (Says (Refused NumbersExhausted)) row ↔ Plays S row
    unfolding hears
    hears_no a f answer R row h = subst
        (λ k. limit k S a f (answer, R) (Says (Refused NumbersExhausted)) row ↔ Plays S row)
        (sym h) (λ h. h.2, λ p. (refl, refl, p))

    pub looks : (guard : Guard) (told : Told T) (row : Row T)
        → Plays S ((Open guard, told) ∷ row) ↔ sees (Opens (value_behind S guard)) told S row
    unfolding Plays sees
    looks guard told row = is_same

    pub counts : (told : Told T) (row : Row T)
        → Plays S ((Count, told) ∷ row) ↔ sees (counted S) told S row
    unfolding Plays sees
    counts told row = is_same

    pub sees_on : (told : Told T) (row : Row T) → sees told told S row ↔ Plays S row
    unfolding sees
    sees_on told row = (λ h. h.1, λ p. (refl, p))

  -- A row says so if its first lines lead here, and the others say so from here. A long row is cut at
  -- states that are written out: its cells, the names issued, the owners, the next ticket and the peak.
  module _ (c : List (Name × Cell T)) (g : List Name) (o : List (ℕ × Ownership)) (n p : ℕ) where
    abbrev here : State T
    here = stage 1 c (set.from_list g) o n p

    pub cut : (R : State T) (row : Row T) (k : ℕ)
        → ((rest : Row T) → Plays here rest → Plays R (take k row ++ rest))
        → Plays here (drop k row) → Plays R row
    cut R row k f rest = subst (Plays R) (take-append-drop k row) (f (drop k row) rest)

pub ruleset steps = (ends, calls, asks, hears_on, hears_no, looks, counts, sees_on)

-- what rows need except for the slots, and with them
pub ruleset rows = (steps, adds_there, entries, contains-insert_name, set.contains-empty)

pub ruleset plays = (rows, no_slots, more_given)

-- Each step leaves a sound state, and what it leaves of boxes, borrows and values.
pub mod Changes
use Rattle.generational_core.proofs.machine.Calls.Steps.Changes.Change.{Birth, Close, Fill, Pair}
use Rattle.generational_core.proofs.machine.Calls.Steps.Changes.Change.{Stay, Turn}
use Rattle.generational_core.proofs.machine.Calls.Steps.Changes.Filling.{Leave}
use Rattle.std.proofs.{lemmas.Map.Views.any-filter_same, lemmas.List.map-append, Math.Bool.or-false}
use Rattle.std.specs.FinMap as map
use Rattle.std.specs.FinSet as set
unfoldable pub use Changes.*

-- ==== each call takes nothing back, and leads from a sound state to a sound state

-- ---- lists of tickets

-- the tickets of borrows
abbrev tickets : List Borrow → List ℕ
tickets rs = list_map (λ r. r.ticket) rs

-- what passes a filter was there, and is still distinct
in_filter : (p : Borrow → Bool) (q : ℕ → Bool) (rs : List Borrow)
    → list_any q (tickets (filter p rs)) ≡ true → list_any q (tickets rs) ≡ true
in_filter p q [] h = h
in_filter p q (r ∷ rs) h = grind (arith, in_filter p q rs)

none_after : (p : Borrow → Bool) (t : ℕ) (rs : List Borrow)
    → AllByRecursion (λ y. nat_eq t y ≡ false) (tickets rs)
    → AllByRecursion (λ y. nat_eq t y ≡ false) (tickets (filter p rs))
none_after p t [] h = h
none_after p t (r ∷ rs) h = grind (arith, none_after p t rs h.1)

apart_filter : (p : Borrow → Bool) (rs : List Borrow)
    → IsDistinct nat_eq (tickets rs) → IsDistinct nat_eq (tickets (filter p rs))
unfolding IsDistinct
apart_filter p [] h = h
apart_filter p (r ∷ rs) h = grind (arith, none_after p r.ticket rs, apart_filter p rs)

module _ {T : Type 0} where
  -- ---- what each name keeps

  -- What a name has in S and in R, between which a call lies that fills no content but at one name:
  -- the same; nothing any more, and then it wasn't borrowed; the first cell of that name, without
  -- borrows; another content; another target.
  pub data View (S R : State T) (call : Action T) (spot q : Name) : Type 0 where
    Same : (same : map.get R.cells q ≡ map.get S.cells q) → View S R call spot q
    Gone : (gone : map.get R.cells q ≡ None)
        (free : IsSound S → IsBorrowed (map.get S.cells q) → ⊥) → View S R call spot q
    Born : (new : set.contains S.given q ≡ false) (given : IsGiven R q)
        (quiet : tickets_at R.cells q ≡ []) → View S R call spot q
    Filled : (filling : Filling T) (cell : Cell T) (here : q ≡ spot)
        (lawful : IsFilling S call R.next q filling) (old : map.get S.cells q ≡ Some cell)
        (new : map.get R.cells q ≡ Some (refill (new_content S filling) cell))
        (had : content_of (Some cell) ≡ Some (old_content filling)) → View S R call spot q
    Turned : (from to : Name) (l : Location) (old : map.get S.cells q ≡ Some (Ref from l))
        (new : map.get R.cells q ≡ Some (Ref to l)) → View S R call spot q

  -- the name at which a change fills a content
  abbrev pub place : NewNames → Change T → Name
  place f (Fill n k) = n
  place f _ = f.first

  -- a cell at a new name
  born_here : (S : State T) (n q : Name) (c : Cell T) → q ≡ n → tickets_of (content_of (Some c))
      ≡ [] → IsGiven (add_cell S n c) q × (tickets_at (add_cell S n c).cells q ≡ [])
  born_here S n q c is quiet = grind (arith, contains-insert_here, by_name, get-insert_here)

  module _ (S : State T) (call : Action T) (f : NewNames) (owners : Owners) (next : ℕ)
      (new : AreNew S call f) (q : Name) where
    -- what each change leaves at each name
    view : (c : Change T) → IsLawful S call f next c
        → View S (record (after S f c) { owners = owners; next = next }) call (place f c) q
    view Stay law = Same refl
    view (Birth c) law = let here = born_here S f.first q c in
        grind (arith, Born, Same, law.2 new, here, get-insert_apart, by_name, name_cases q)
    view (Pair v l) law =
        let c : Cell T = Shared (Here v []) l in
        let one = add_cell S f.first c in
        let second = second_fresh S.given f.first f.second (law.1 new).1.ungiven in
        let given = contains-insert_old by_name one.given f.second q in
        let other = get-insert_apart by_name one.cells f.second (Ref f.first l) q in
        let at = born_here one f.second q (Ref f.first l) in
        let first = born_here S f.first q c in
        let apart = get-insert_apart by_name S.cells f.first c q in
        grind (arith, Born, Same, second, at, law.1 new, given, other, first, apart, name_cases q)
    view (Fill n k) law = ⊎_elim Same
        (λ e. Filled k e.1 e.0 (grind (arith, e, law)) e.2 e.3 (cc (law.0, ap content_of e.2)))
        (changed_view by_name S.cells n (refill (new_content S k)) q)
    view (Close names) law = grind (arith, Same, Gone, closed_view S names law.0 q)
    view (Turn a old to l) law = ⊎_elim Same
        (⊎_elim (λ e. Turned old to l e.0 e.1) (λ e. Gone e.0 e.1))
        (turned_view S a old to l law.0 law.2 q)

  -- no change changes the store's number, its first generation or owners' records
  pub same_store : (S : State T) (f : NewNames) (c : Change T) → ((after S f c).number ≡ S.number)
      × ((after S f c).start ≡ S.start) × ((after S f c).owners ≡ S.owners)
  same_store S f c = grind arith

  -- R comes after S by a call: nothing is taken back
  pub record Follows (S : State T) (call : Action T) (R : State T) : Type 0 where
    pub number : R.number ≡ S.number
    pub start : R.start ≡ S.start
    pub next : S.next ≤ R.next
    pub given : (q : Name) → IsGiven S q → IsGiven R q
    pub spot : Name
    pub view : (q : Name) → View S R call spot q

  pub follows_same : (S : State T) (call : Action T) (n : Name) → Follows S call S
  follows_same S call n = record
      { number = refl; start = refl; next = omega arith; given = λ q h. h; spot = n; view = λ q. Same refl }

  -- what a call leads to follows the state before it
  module _ {S : State T} {call : Action T} {f : NewNames} {out : Outcome T} where
    abbrev pub last : Leads S call f out → State T
    last h = record (after S f h.change) { owners = h.owners; next = h.next }

    pub change_follows : AreNew S call f → (h : Leads S call f out) → Follows S call (last h)
    change_follows new h = record {
      number = (same_store S f h.change).0;
      start = (same_store S f h.change).1;
      next = h.up;
      given = grind (arith, contains-insert_old, by_name);
      spot = place f h.change;
      view = λ q. view S call f h.owners h.next new q h.change h.lawful;
    }

    pub leads_follows : AreNew S call f → Leads S call f out → Follows S call out.1
    leads_follows new h = subst (Follows S call) (sym h.is) (change_follows new h)

  -- what holds of what a name had and has, proved for each way in which that may change
  pub keep_each : {S R : State T} {call : Action T} (h : Follows S call R)
      (q : Name) (P : Option (Cell T) → Option (Cell T) → Type 0) → ((x : Option (Cell T)) → P x x)
      → ((IsSound S → IsBorrowed (map.get S.cells q) → ⊥) → P (map.get S.cells q) None)
      → (set.contains S.given q ≡ false → IsGiven R q → tickets_at R.cells q ≡ []
      → P (map.get S.cells q) (map.get R.cells q)) → ((k : Filling T) (c : Cell T)
      → q ≡ h.spot → IsFilling S call R.next q k → content_of (Some c) ≡ Some (old_content k)
      → content_of (Some (refill (new_content S k) c)) ≡ Some (new_content S k)
      → P (Some c) (Some (refill (new_content S k) c))) → ((m n : Name) (l : Location)
      → P (Some (Ref m l)) (Some (Ref n l))) → P (map.get S.cells q) (map.get R.cells q)
  keep_each h q P same gone born filled turned = grind arith

  -- what is live was live, or is new
  pub live_before : {S R : State T} {call : Action T} (h : Follows S call R) (q : Name)
      → is_some (map.get R.cells q) ≡ true → (is_some (map.get S.cells q) ≡ true)
      ⊎ ((set.contains S.given q ≡ false) × IsGiven R q)
  live_before h q live = grind arith

  -- a removed name never has a cell again
  pub ended_still : {S R : State T} {call : Action T} (h : Follows S call R) (q : Name)
      → IsEnded S q → map.get R.cells q ≡ None
  ended_still h q ended = grind arith

  -- ---- tickets

  -- The tickets of one content are distinct if those of another were, which were below the next; and each
  -- of them was there before, or is the next one, at one name alone.
  abbrev Renews : State T → ℕ → Name → Name → Option (Content T) → Option (Content T) → Type 0
  Renews S next spot q x y = IsDistinct nat_eq (tickets_of x)
      → ((t : ℕ) → list_any (nat_eq t) (tickets_of x) ≡ true → t < S.next)
      → IsDistinct nat_eq (tickets_of y) × ((t : ℕ) → list_any (nat_eq t) (tickets_of y) ≡ true
      → (list_any (nat_eq t) (tickets_of x) ≡ true) ⊎ ((q ≡ spot) × (S.next ≤ t) × (t < next)))

  renewed : (S : State T) (call : Action T) (next : ℕ) (spot q : Name) (k : Filling T) → q ≡ spot
      → IsFilling S call next q k → Renews S next spot q (Some (old_content k)) (Some (new_content S k))
  unfolding IsDistinct
  renewed S call next spot q (Leave v rs g) here law d low = grind (arith, apart_filter, in_filter)
  renewed S call next spot q _ here law d low =
      grind (arith, map-append, IsDistinct-push, nat_eq_equiv, list_any-append, eqb-true)

  -- ---- what Refs name

  -- there is nothing at a name that was never issued, even next to another new one
  pub absent : (S : State T) → IsSound S → (n : Name)
      → set.contains S.given n ≡ false → map.get S.cells n ≡ None
  absent S s n new = grind arith

  pub absent_beside : (S : State T) → IsSound S → (m n : Name) (c : Cell T)
      → set.contains (add_cell S m c).given n ≡ false → map.get (add_cell S m c).cells n ≡ None
  absent_beside S s m n c new = grind (arith, second_fresh, get-insert_apart, by_name)

  -- after each change Refs name Shared cells, and Shared cells are named
  module _ (S : State T) (call : Action T) (f : NewNames) (next : ℕ)
      (s : IsSound S) (new : AreNew S call f) where
    linked : (c : Change T) → IsLawful S call f next c → IsLinked (after S f c).cells
    linked (Birth c) law = born_linked S.cells f.first c (sound_linked S s)
        (absent S s f.first (law.2 new).ungiven) law.1.0 law.1.2
    linked (Pair v l) law =
        let names = law.1 new in
        let apart = second_fresh S.given f.first f.second names.1.ungiven in
        pair_linked S.cells f.first f.second (Here v []) l l (sound_linked S s) apart.1
        (absent S s f.first names.0.ungiven) (absent S s f.second apart.0)
    linked c law = search (sound_linked, refilled_linked, closed_linked, turned_linked, s.targets)

  -- ---- soundness

  module _ {S R : State T} {call : Action T} (s : IsSound S) (h : Follows S call R) where
    pub shared_still : (q : Name) → IsGiven S q → is_shared (map.get S.cells q) ≡ false
        → is_shared (map.get R.cells q) ≡ false
    shared_still q given plain = grind arith

    each_boxed : (names : List Name) → AllByRecursion (IsBoxed S) names → AllByRecursion (IsBoxed R) names
    each_boxed [] all = tt
    each_boxed (n ∷ names) all = grind (arith, h.given, shared_still, each_boxed names all.1)

    -- tickets are distinct, and each was there before, or is new
    tickets_still : (q : Name) → IsDistinct nat_eq (tickets_at R.cells q) × ((t : ℕ)
        → Stands R.cells q t → Stands S.cells q t ⊎ ((q ≡ h.spot) × (S.next ≤ t) × (t < R.next)))
    unfolding IsDistinct
    tickets_still q = grind (arith, h.view q, renewed S call R.next h.spot q)

    follows_sound : IsLinked R.cells → AreRecords R R.next R.owners → IsSound R
    follows_sound links records = record {
      given = λ n live. grind (arith, live_before h n live, s.given n, h.given n);
      owned = λ k x is. (records k x is).0;
      targets = links.targets;
      shared = λ m e. named_from R.cells m (links.named m e);
      below = λ n t e. grind (arith, s.below n t, (tickets_still n).1 t e, h.next);
      apart = λ n. (tickets_still n).0;
      one_cell = λ n m t a b.
          let first = (tickets_still n).1 t a in
          let second = (tickets_still m).1 t b in
          grind (arith, first, second, s.below n t, s.below m t, s.one_cell n m t);
      keys = λ k live. grind (arith, some_live (map.get R.owners k) live, records k);
    }

  -- each call, with new names, leads from a sound state to a sound state
  pub leads_sound : {S : State T} {call : Action T} {f : NewNames} {out : Outcome T}
      → IsSound S → AreNew S call f → Leads S call f out → IsSound out.1
  leads_sound {S} {call} {f} s new h =
      let follows = change_follows new h in
      let links = linked S call f h.next s new h.change h.lawful in
      rw h.is (follows_sound s follows links (h.recorded (λ k x is.
      let there = rw (same_store S f h.change).2 at is in
      (each_boxed s follows x.names (s.owned k x there), grind (arith, s.keys k, h.up)))))

  -- ---- facts of sound states

  -- a state in which nothing was made is sound
  pub fresh_sound : (number start next : ℕ) → IsSound (fresh {T = T} number start next)
  unfolding IsDistinct
  fresh_sound number start next =
      grind (arith, map.get-empty {X = Cell T} name_cmp, map.get-empty {X = Ownership} nat_cmp)

  -- a Shared cell is live exactly while a live Ref names it
  pub named_shared : (S : State T)
      → IsSound S → (m : Name) → IsNamed S.cells m → is_shared (map.get S.cells m) ≡ true
  named_shared S s m h = s.targets h.0 m h.1 h.2

  -- a box whose cell is a Ref reaches a live Shared cell
  pub ref_reaches : (S : State T) (b : GenerationalPointer) (m : Name) (l : Location) → IsSound S
      → b.id.store ≡ S.number → map.get S.cells (name_of b) ≡ Some (Ref m l)
      → (reach S b ≡ Some m) × (is_shared (map.get S.cells m) ≡ true)
  unfolding reach
  ref_reaches S b m l s own is = grind arith

-- ==== what holds of each call of a store, whatever names it takes and whatever allocations fail

-- a reader stays when another ticket goes
unread_stays : (u t : ℕ) (readers : List Borrow)
    → nat_eq u t ≡ false → list_any (λ r. nat_eq r.ticket t) readers ≡ true
    → list_any (λ r. nat_eq r.ticket t) (without u readers) ≡ true
unread_stays u t readers other h = any-filter_same (λ r. nat_eq r.ticket t)
    (λ r. not (nat_eq r.ticket u)) true
    (λ r e. cc (eqb-true r.ticket t e, nat_eq_equiv.symm u t)) readers ∙ h

module _ {T : Type 0} where
  -- ---- the first generation of slots, and names, whichever names a call takes

  -- an outcome with the same first generation, and, unless it is that of a making, the same names
  pub record Begins (making : Bool) (S : State T) (out : Outcome T) : Type 0 where
    pub start : out.1.start ≡ S.start
    pub given : making ≡ false → out.1.given ≡ S.given

  -- each call keeps the first generation, and only a making issues names
  pub act_start : (S : State T) (call : Action T) (f : NewNames)
      → Begins (is_making call) S (act S call f)
  act_start S call f = grind (arith, act_leads S call f)

  -- ---- the two cases of a call

  -- whether an answer is an error
  abbrev pub is_refusal : Answer T → Bool
  is_refusal (BorrowRefused t) = true
  is_refusal (Refused e) = true
  is_refusal _ = false

  -- a call fails, and changes nothing
  abbrev pub IsRefused : State T → Answer T → State T → Type 0
  IsRefused S answer R = (is_refusal answer ≡ true) × (R ≡ S)

  -- a call is a step of the machine that takes new names
  abbrev pub Acts : State T → Action T → Answer T → State T → Type 0
  Acts S call answer R = (new : NewNames) × AreNew S call new × ((answer, R) ≡ act S call new)

  -- an outcome takes new names, or is an error
  abbrev pub TakesNew : State T → Action T → NewNames → Outcome T → Type 0
  TakesNew S call f out = Takes S call out.0 f → AreNew S call f ⊎ IsRefused S out.0 out.1

  -- a call takes new names, or fails
  pub takes_new : (S : State T) (call : Action T) (f : NewNames) → TakesNew S call f (act S call f)
  takes_new S call f = grind arith

  -- a call fails and changes nothing, or takes new names and does what the machine does
  pub meets_cases : (S R : State T) (call : Action T) (answer : Answer T)
      → Meets S call answer R → IsRefused S answer R ⊎ Acts S call answer R
  meets_cases S R call answer (inl m) = by_cond
      (λ (out : Outcome T). (answer, R) ≡ out → IsRefused S answer R ⊎ Acts S call answer R)
      (takes_ticket (act S call m.0).0 && nat_eq S.next last_ticket)
      (λ _ e. inl (grind arith)) (λ _ e. ⊎_elim (λ new. inr (m.0, new, e)) (λ same. inl (grind arith))
      (takes_new S call m.0 (grind (arith, e, m.1)))) m.2
  meets_cases S R call answer (inr m) = inl (grind arith)

  -- a box of a removed name reaches nothing, so reads of it fail with `Dropped`
  pub ended_read : (S : State T) (b : GenerationalPointer)
      → IsEnded S (name_of b) → refusal_to_read S b ≡ Some (Dropped b.created_at)
  unfolding refusal_to_read reach
  ended_read S b e = grind arith

  pub ended_write : (S : State T) (b : GenerationalPointer)
      → IsEnded S (name_of b) → refusal_to_write S b ≡ Some (Dropped b.created_at)
  unfolding refusal_to_write reach
  ended_write S b e = grind arith

  -- whether a call gives back the reader, or the writer, with a ticket
  abbrev pub ends_reader : Action T → ℕ → Bool
  ends_reader (ReleaseReader g) t = nat_eq g.ticket t
  ends_reader _ t = false

  abbrev pub ends_writer : Action T → ℕ → Bool
  ends_writer (ReleaseWriter g v) t = nat_eq g.ticket t
  ends_writer _ t = false

  -- ---- soundness, and what nothing takes back

  module _ (S R : State T) (call : Action T) (answer : Answer T) where
    -- what holds of an error, which changes nothing, and of what the machine does holds of a call
    pub meets_each : (P : Outcome T → Type 0) → (is_refusal answer ≡ true → P (answer, S))
        → ((f : NewNames) → AreNew S call f → P (act S call f)) → Meets S call answer R → P (answer, R)
    meets_each P refused acts m = ⊎_elim (λ e. subst (λ X. P (answer, X)) (sym e.1) (refused e.0))
        (λ e. subst P (sym e.2) (acts e.0 e.1)) (meets_cases S R call answer m)

    -- each call of a sound store leaves it sound
    pub meets_sound : IsSound S → Meets S call answer R → IsSound R
    meets_sound s = meets_each (λ o. IsSound o.1) (λ _. s)
        (λ f new. leads_sound s new (act_leads S call f))

    -- nothing is taken back
    pub meets_follows : Meets S call answer R → Follows S call R
    meets_follows = meets_each (λ o. Follows S call o.1)
        (λ _. follows_same S call no_names.first) (λ f new. leads_follows new (act_leads S call f))

    pub meets_number : Meets S call answer R → R.number ≡ S.number
    meets_number m = (meets_follows m).number

    pub meets_start : Meets S call answer R → R.start ≡ S.start
    meets_start m = (meets_follows m).start

    pub meets_next : Meets S call answer R → S.next ≤ R.next
    meets_next m = (meets_follows m).next

    pub meets_given : Meets S call answer R → (n : Name) → IsGiven S n → IsGiven R n
    meets_given m = (meets_follows m).given

    pub meets_ended : Meets S call answer R → (n : Name) → IsEnded S n → IsEnded R n
    meets_ended m n e = let f = meets_follows m in (f.given n e.0, ended_still f n e)

    -- what an answer says is true
    pub meets_says : Meets S call answer R → Says S answer R
    meets_says = meets_each (λ o. Says S o.0 o.1) (λ h. grind arith)
        (λ f new. (act_says S call f (new_fresh S call f new)).so)

    -- ---- values that stay

    -- a live cell was always made where it was made
    pub meets_location : (m : Name) → IsSound S → Meets S call answer R
        → is_some (map.get S.cells m) ≡ true → is_some (map.get R.cells m) ≡ true
        → location_at R m ≡ location_at S m
    meets_location m s meets before after = grind (arith, (meets_follows meets).view m)

    -- a value that no writer has, before or after a call that doesn't set it, is the same
    pub meets_value : (m : Name) → IsSound S → Meets S call answer R → (Sets S call m → ⊥) → is_some
        (value_at S m) ≡ true → is_some (value_at R m) ≡ true → value_at R m ≡ value_at S m
    meets_value m s meets unset before is = grind (arith, meets_follows)

    -- ---- guards

    -- a store knows a guard until it is released
    pub reader_stays : IsSound S → Meets S call answer R → (g : Guard)
        → knows_reader S g ≡ true → ends_reader call g.ticket ≡ false → knows_reader R g ≡ true
    reader_stays s m g known other =
        let view = (meets_follows m).view g.cell in
        let number = (meets_follows m).number in
        grind (arith, view, number, list_any-append, unread_stays)

    pub writer_stays : IsSound S → Meets S call answer R → (g : Guard)
        → knows_writer S g ≡ true → ends_writer call g.ticket ≡ false → knows_writer R g ≡ true
    writer_stays s m g known other =
        let view = (meets_follows m).view g.cell in
        let number = (meets_follows m).number in
        grind (arith, view, number)

  -- ---- new boxes and guards

  -- a box that is made is a new one of the store
  pub made_new : (S R : State T) (call : Action T) (b : GenerationalPointer) → Meets S call (Made b) R
      → (b.id.store ≡ S.number) × (set.contains S.given (name_of b) ≡ false) × IsGiven R (name_of b)
  made_new S R call b m = grind (arith, meets_says S R call (Made b) m)

  -- a new reader is known, with the next ticket; so is a new writer
  pub reads_known : (S R : State T) (call : Action T) (g : Guard) → Meets S call (Reads g) R
      → (knows_reader R g ≡ true) × (g.ticket ≡ S.next) × (R.next ≡ S.next + 1)
  reads_known S R call g m = grind (arith, meets_says S R call (Reads g) m)

  pub writes_known : (S R : State T) (call : Action T) (g : Guard) (v : T) → Meets S
      call (Writes g v) R → (knows_writer R g ≡ true) × (g.ticket ≡ S.next) × (R.next ≡ S.next + 1)
  writes_known S R call g v m = grind (arith, meets_says S R call (Writes g v) m)

-- ==== names that end one after the other, and Refs that turn: what is left, and what hinders it

-- what is in a list of one name
just_one : (n q : Name) → among (n ∷ []) q ≡ true → q ≡ n
just_one n q h = name_same q n (rw or-false at h)

module _ {T : Type 0} where
  -- ---- what is left at a name

  -- cells that are the same at each name
  same_cells : (a b : NameMap (Cell T)) → ((q : Name) → map.get a q ≡ map.get b q) → a ≡ b
  same_cells a b same = map.same_map name_total name_exact a b same

  -- ---- which names Refs name

  -- what a Ref names stays named if each such Ref stays one
  pub named_still : (a b : NameMap (Cell T)) (m : Name)
      → ((k : Name) → refers_to m (map.get a k) ≡ true → refers_to m (map.get b k) ≡ true)
      → is_named a m ≡ true → is_named b m ≡ true
  named_still a b m still h = grind (arith, named_gives, name_here, is_ref, named_from)

  -- whether a name is named depends on the Refs to it alone
  pub named_same : (a b : NameMap (Cell T)) (m : Name)
      → ((k : Name) → refers_to m (map.get a k) ≡ refers_to m (map.get b k)) → is_named a m ≡ is_named b m
  named_same a b m same = grind (arith, named_still)

  -- the end of a cell that is no Ref to m leaves what names m
  pub remove_names : (cells : NameMap (Cell T)) (n m : Name)
      → refers_to m (map.get cells n) ≡ false → is_named (map.remove cells n) m ≡ is_named cells m
  remove_names cells n m other = grind (arith, named_same, by_name, get-remove_here, get-remove_apart)

  -- ---- names end one after the other

  -- names are removed one after the other
  pub away_each : (cells : NameMap (Cell T)) (n : Name) (names : List Name)
      → take_away cells (n ∷ names) ≡ take_away (take_away cells (n ∷ [])) names
  away_each cells n names = grind (arith, same_cells, get-without)

  -- a sweep in between changes nothing in the end
  sweep_between : (cells : NameMap (Cell T)) (names : List Name)
      → sweep (take_away (sweep cells) names) ≡ sweep (take_away cells names)
  sweep_between cells names =
      let first = take_away (sweep cells) names in
      let second = take_away cells names in
      same_cells _ _ (λ q.
      let same = named_same first second q (λ k. grind (arith, get-without, get-swept)) in
      let fewer = named_still second cells q (λ k. grind (arith, get-without)) in
      grind (arith, get-swept, get-without, same, fewer))

  -- what is left when names end together is what is left when they end one after the other
  pub close_each : (cells : NameMap (Cell T)) (n : Name) (names : List Name)
      → cells_after cells (n ∷ names) ≡ cells_after (cells_after cells (n ∷ [])) names
  close_each cells n names = grind (arith, away_each, sweep_between)

  -- ---- one name

  -- a name without a cell, and one of a Shared cell, take nothing away
  pub away_nothing : (cells : NameMap (Cell T)) (names : List Name)
      → ((q : Name) → among names q ≡ true → is_shared (map.get cells q) ≡ false
      → map.get cells q ≡ None) → take_away cells names ≡ cells
  away_nothing cells names nothing = grind (arith, same_cells, without_view)

  module _ (cells : NameMap (Cell T)) (n : Name) where
    -- so a Shared cell stays if its name alone ends
    pub away_shared : is_shared (map.get cells n) ≡ true → take_away cells (n ∷ []) ≡ cells
    away_shared shared = away_nothing cells (n ∷ []) (λ q there plain. cc (just_one n q there))

    -- and if there is none, nothing goes
    pub away_absent : map.get cells n ≡ None → take_away cells (n ∷ []) ≡ cells
    away_absent none = away_nothing cells (n ∷ []) (λ q there plain. cc (just_one n q there))

    -- any other cell goes
    pub away_one : is_shared (map.get cells n) ≡ false → take_away cells (n ∷ []) ≡ map.remove cells n
    away_one plain =
        grind (arith, same_cells, by_name, get-without, name_here, get-remove_here, get-remove_apart, name_apart)

  -- ---- a sweep of cells of which each Shared cell is named, or each except one

  -- if each is named, none goes
  pub sweep_all : (cells : NameMap (Cell T)) → ((q : Name) → is_shared (map.get cells q) ≡ true
      → is_named cells q ≡ true) → sweep cells ≡ cells
  sweep_all cells named = grind (arith, same_cells, swept_view)

  -- if each except m is named, only m may go
  pub sweep_but : (cells : NameMap (Cell T)) (m : Name) → is_shared (map.get cells m) ≡ true
      → ((q : Name) → q ≢ m → is_shared (map.get cells q) ≡ true → is_named cells q ≡ true)
      → sweep cells ≡ cond (is_named cells m) cells (map.remove cells m)
  sweep_but cells m shared others =
      grind (arith, sweep_all, by_name, same_cells, get-swept, get-remove_here, swept_view, get-remove_apart)

  -- ---- the end of one name, of cells that are linked

  -- a sweep removes nothing from linked cells
  pub sweep_linked : (cells : NameMap (Cell T)) → IsLinked cells → sweep cells ≡ cells
  sweep_linked cells linked = sweep_all cells (λ q h. named_from cells q (linked.named q h))

  -- nor does an end of no names
  pub close_nothing : (cells : NameMap (Cell T)) → IsLinked cells → cells_after cells [] ≡ cells
  close_nothing cells linked = grind (arith, away_nothing, sweep_linked)

  -- what is left when the name of a cell ends: a Ref's target goes with the last Ref to it
  abbrev pub left_of_end : NameMap (Cell T) → Name → Option (Cell T) → NameMap (Cell T)
  left_of_end cells n (Some (Value c l)) = map.remove cells n
  left_of_end cells n (Some (Ref m l)) = let rest = map.remove cells n in
      cond (is_named rest m) rest (map.remove (map.remove cells m) n)
  left_of_end cells n _ = cells

  module _ (cells : NameMap (Cell T)) (n : Name) (linked : IsLinked cells) where
    -- a Shared cell that the cell at n doesn't name is named without it
    named_without : (q : Name) → refers_to q (map.get cells n) ≡ false
        → is_shared (map.get (map.remove cells n) q) ≡ true → is_named (map.remove cells n) q ≡ true
    named_without q other h =
        grind (arith, by_name, get-remove_here, remove_names, named_from, get-remove_apart)

    -- it is what is left of the cells
    pub close_one : (cell : Option (Cell T)) → map.get cells n ≡ cell
        → cells_after cells (n ∷ []) ≡ left_of_end cells n cell
    close_one cell at =
        let one = away_one cells n in
        let all = sweep_linked cells linked in
        let other = get-remove_apart by_name cells n in
        let twice = remove_each by_name cells n in
        grind (arith, one, all, away_nothing, sweep_all, sweep_but, named_without, other, name_apart, twice)

  -- ---- what hinders the end of names

  -- what hinders the end of a cell, given a test for what is named afterwards
  abbrev pub borrowed_end : NameMap (Cell T) → (Name → Bool) → Option (Cell T) → Option BorrowRefusal
  borrowed_end cells named (Some (Value c l)) = write_refusal (Some c)
  borrowed_end cells named (Some (Ref m l)) =
      cond (named m) None (write_refusal (content_of (map.get cells m)))
  borrowed_end cells named _ = None

  -- and the end of the cells of these names, at the first of them that is hindered
  abbrev pub first_borrowed_end : NameMap (Cell T) → (Name → Bool) → List Name → Option BorrowRefusal
  first_borrowed_end cells named [] = None
  first_borrowed_end cells named (n ∷ names) =
      option_or (borrowed_end cells named (map.get cells n)) (first_borrowed_end cells named names)

  module _ (cells : NameMap (Cell T)) (names : List Name) (linked : IsLinked cells) where
    -- each of the names is hindered by the borrows of what goes with it
    pub end_hindered : (n : Name) → among names n ≡ true → (cell : Option (Cell T))
        → map.get cells n ≡ cell → hindrance_of cells (cells_after cells names)
        (map.get cells n) n ≡ borrowed_end cells (is_named (take_away cells names)) cell
    end_hindered n there cell at = grind (arith, get-swept, get-without)

    -- so the first hindrance is that of each name alone
    pub first_hindered : first_hindrance cells (cells_after cells names) names
        ≡ first_borrowed_end cells (is_named (take_away cells names)) names
    first_hindered = of_some names (λ n h. h)
      where
        of_some : (some : List Name) → ((n : Name) → among some n ≡ true → among names n ≡ true)
            → first_hindrance cells (cells_after cells names) some
            ≡ first_borrowed_end cells (is_named (take_away cells names)) some
        of_some [] within = refl
        of_some (n ∷ some) within = grind (arith, within, name_here, end_hindered, of_some some)

  -- what hinders the end of one name
  pub one_hindered : (S : State T) (n : Name) → IsLinked S.cells
      → (cell : Option (Cell T)) → map.get S.cells n ≡ cell
      → hindrance_to S (n ∷ []) ≡ borrowed_end S.cells (is_named (map.remove S.cells n)) cell
  unfolding hindrance_to
  one_hindered S n linked cell at =
      grind (arith, first_hindered S.cells (n ∷ []) linked, away_one S.cells n)

  -- ---- a Ref that turns to another cell

  module _ (cells : NameMap (Cell T)) (a old new : Name) (l : Location)
      (linked : IsLinked cells) (at : map.get cells a ≡ Some (Ref old l)) where
    abbrev turned : NameMap (Cell T)
    turned = map.insert cells a (Ref new l)

    -- every other name has what it had
    apart : (k : Name) → k ≢ a → map.get (map.insert cells a (Ref new l)) k ≡ map.get cells k
    apart k ne = get-insert_apart by_name cells a (Ref new l) k ne

    -- all except the old target are named still
    turned_named : (q : Name) → q ≢ old → is_shared (map.get turned q) ≡ true → is_named turned q ≡ true
    turned_named q ne h = grind (arith, apart, named_from, by_name, get-insert_here)

    module _ (other : is_name old new ≡ false) where
      -- the old target is named if another Ref names it
      turn_names : is_named (map.insert cells a (Ref new l)) old ≡ is_named (map.remove cells a) old
      turn_names =
          grind (arith, named_same, by_name, get-insert_here, get-remove_here, apart, get-remove_apart)

      -- it goes if none does
      pub turn_sweep : sweep (map.insert cells a (Ref new l))
          ≡ cond (is_named (map.remove cells a) old) (map.insert cells a (Ref new l))
          (map.remove (map.insert cells a (Ref new l)) old)
      turn_sweep = grind (arith, sweep_but, apart, turned_named, turn_names)

      -- and its borrows hinder that
      pub turn_hindered : hindrance_at cells (sweep (map.insert cells a (Ref new l))) old ≡ cond
          (is_named (map.remove cells a) old) None (write_refusal (content_of (map.get cells old)))
      turn_hindered = grind (arith, get-swept, turn_names, apart)

-- ==== what a box sees after a call: what the call's answer says of it, and what the call leaves

module _ {T : Type 0} where
  -- ---- what a box reaches

  -- a box that reaches something is of the store, and its cell leads there
  pub record Reaches (S : State T) (b : GenerationalPointer) (m : Name) : Type 0 where
    pub number : nat_eq b.id.store S.number ≡ true
    pub leads : leads_to (map.get S.cells (name_of b)) (name_of b) ≡ Some m

  pub reaches : (S : State T) (b : GenerationalPointer) (m : Name) → reach S b ≡ Some m → Reaches S b m
  unfolding reach
  reaches S b m e = let it = cond_gives _ _ m e in record { number = it.0; leads = it.1 }

  -- what leads somewhere is a Value or a Ref, and a filled one leads to the same
  pub led_box : (c : Option (Cell T)) (q m : Name) → leads_to c q ≡ Some m
      → (is_some c ≡ true) × (is_shared c ≡ false)
  led_box c q m e = grind arith

  -- there is a content at the name that a box reaches
  pub reached_content : (S : State T) (b : GenerationalPointer) (m : Name)
      → IsSound S → reach S b ≡ Some m → is_some (content_at S m) ≡ true
  reached_content S b m s e = grind (arith, reaches)

  -- so the name is live
  pub reached_live : (S : State T) (b : GenerationalPointer) (m : Name)
      → IsSound S → reach S b ≡ Some m → is_some (map.get S.cells m) ≡ true
  reached_live S b m s e = live_by (λ c. is_some (content_of c)) refl _ (reached_content S b m s e)

  -- ---- the cell of a box

  -- A Value or a Ref leads where it led, unless its name ends or it turns.
  module _ (S : State T) (call : Action T) (f : NewNames) (next : ℕ) (new : AreNew S call f)
      (q : Name) (given : IsGiven S q) (box : is_shared (map.get S.cells q) ≡ false)
      (on : among (ending S call) q ≡ false) (unturned : Turns call q → ⊥) where
    kept_cell : (c : Change T) → IsLawful S call f next c
        → leads_to (map.get (after S f c).cells q) q ≡ leads_to (map.get S.cells q) q
    kept_cell c law =
        grind (arith, get-insert_apart, by_name, second_fresh, changed_view, box_stays, swept_view)

  -- ---- the value that it reaches

  pub value_in_reached : (S : State T) (b : GenerationalPointer) (m : Name)
      → reach S b ≡ Some m → value_in S b ≡ value_at S m
  unfolding value_in
  value_in_reached S b m e = ap (value_reached S) e

  module _ (S R : State T) (call : Action T) (answer : Answer T) where
    -- a box reaches what it reached, unless the call ends it or points it elsewhere
    pub reach_stays : (b : GenerationalPointer) (m : Name) → IsSound S → Meets S call answer R
        → LeavesBox S call b → reach S b ≡ Some m → reach R b ≡ Some m
    unfolding reach
    reach_stays b m s meets leaves e =
        meets_each S R call answer (λ o. reach o.1 b ≡ Some m) (λ _. e) (λ f new.
        let h = act_leads S call f in
        let r = reaches S b m e in
        let box = led_box _ (name_of b) m r.leads in
        let stays = kept_cell S call f h.next new (name_of b) (s.given (name_of b) box.0) box.1
        (grind (arith, name_apart)) (λ t. grind arith) h.change h.lawful in
        grind (arith, h.is, stays, r.number, r.leads, same_store S f h.change)) meets

    -- what a live name has keeps its value, unless the call lends it or sets it
    pub kept_value : (m : Name) → IsSound S → Meets S call answer R
        → (Lends S call m → ⊥) → (Sets S call m → ⊥) → is_some (map.get S.cells m) ≡ true
        → is_some (map.get R.cells m) ≡ true → value_at R m ≡ value_at S m
    kept_value m s meets free quiet before after =
        grind (arith, (meets_follows S R call answer meets).view m)

    -- a box sees what it saw, unless the call ends it, points it elsewhere, lends or sets its value
    pub value_stays : (b : GenerationalPointer) (m : Name) → IsSound S → Meets S call answer R
        → LeavesValue S call b → reach S b ≡ Some m → value_in R b ≡ value_in S b
    unfolding value_in
    value_stays b m s meets leaves e =
        let stays = reach_stays b m s meets (grind arith) e in
        let live = reached_live R b m (meets_sound S R call answer s meets) stays in
        let view = (meets_follows S R call answer meets).view m in
        grind (arith, stays, view, live, reached_live S b m s e)

-- ==== values that aren't borrowed: which calls leave them so, that they may be read and removed, and
-- that a read and its release change only the next ticket

-- a ticket that was nowhere is removed from the end of the list where it was put
left_again : (t : ℕ) (readers : List Borrow) (r : Borrow) → r.ticket ≡ t → list_any
    (nat_eq t) (list_map (λ b. b.ticket) readers) ≡ false → without t (readers ++ r ∷ []) ≡ readers
left_again t [] r is none = grind (arith, nat_eq_equiv)
left_again t (b ∷ readers) r is none = grind (arith, nat_eq_equiv, left_again t readers r is)

module _ {T : Type 0} where
  -- ---- what a box that may be written reaches

  -- a box reaches a name that isn't borrowed
  pub record Rests (S : State T) (b : GenerationalPointer) (m : Name) : Type 0 where
    pub reaches : reach S b ≡ Some m
    pub free : write_refusal (content_at S m) ≡ None

  pub rests : (S : State T) (b : GenerationalPointer) → can_write S b ≡ true → (m : Name) × Rests S b m
  unfolding refusal_to_write
  rests S b h = grind arith

  pub rests_free : (S : State T) (b : GenerationalPointer) (m : Name) → Rests S b m → can_write S b ≡ true
  unfolding refusal_to_write
  rests_free S b m r = rw (r.reaches, r.free)

  -- it may be read too
  pub free_reads : (S : State T) (b : GenerationalPointer) → can_write S b ≡ true → can_read S b ≡ true
  unfolding refusal_to_read
  free_reads S b h = grind (arith, rests)

  -- and it sees a value
  pub free_sees : (S : State T) (b : GenerationalPointer)
      → IsSound S → can_write S b ≡ true → (v : T) × (value_in S b ≡ Some v)
  free_sees S b s h = grind (arith, rests S b h, reached_content S b, value_in_reached S b)

  -- ---- what calls leave

  -- a value stays unborrowed, unless the call begins a borrow of it, ends the box or points it elsewhere
  pub free_stays : (S R : State T) (call : Action T) (answer : Answer T) (b : GenerationalPointer)
      → IsSound S → Meets S call answer R → LeavesUnborrowed S call b
      → can_write S b ≡ true → can_write R b ≡ true
  free_stays S R call answer b s meets leaves h =
      let it = rests S b h in
      let stays = reach_stays S R call answer b it.0 s meets (grind arith) it.1.reaches in
      let view = (meets_follows S R call answer meets).view it.0 in
      grind (arith, rests_free R b, stays, view, it.1.free, reached_live S b it.0 s it.1.reaches)

  -- ---- ends

  unhindered : (S : State T) (b : GenerationalPointer)
      → can_write S b ≡ true → hindrance_to S (own_name S b) ≡ None
  unfolding hindrance_to
  unhindered S b h = search (arith, rests, reaches)

  -- a removal of it returns Ok
  pub free_ends : (S R : State T) (b : GenerationalPointer) (answer : Answer T)
      → can_write S b ≡ true → Meets S (End b) answer R → answer ≡ Done
  unfolding may_lack
  free_ends S R b answer h m = grind (arith, unhindered)

  -- ---- a read that was released

  -- a cell that is filled and filled again with what it held
  refilled_back : (S : State T) (m : Name) (c d : Content T) → content_at S m ≡ Some d
      → change (change S.cells m (refill c)) m (refill d) ≡ S.cells
  refilled_back S m c d had = map.same_map name_total name_exact _ _
      (λ q. grind (arith, get-changed_name, name_same q m))

  -- the state is unchanged except for the next ticket
  pub read_released : (S R Q : State T) (b : GenerationalPointer) (l : Location) (g : Guard)
      (flag : Bool) → IsSound S → Meets S (Read b l) (Reads g) R
      → Meets R (ReleaseReader g) (Flag flag) Q → Q ≡ record S { next = S.next + 1 }
  read_released S R Q b l g flag s read release =
      ⊎_elim (λ refused. cc) (λ acts. at (refusal_to_read S b) (reach S b) _ refl acts.2)
      (meets_cases S R (Read b l) (Reads g) read)
    where
      known : knows_reader R g ≡ true
      known = (reads_known S R (Read b l) g read).0

      at : (t : Option BorrowRefusal) (to : Option Name) (c : Option (Content T))
          → content_of (cell_at S to) ≡ c → (Reads g, R) ≡ unless t S (read_at S l to c)
          → Q ≡ record S { next = S.next + 1 }
      at None (Some m) (Some (Here v rs)) had e =
          let now = Here v (rs ++ next_borrow S l ∷ []) in
          let quiet : list_any (nat_eq S.next) (list_map (λ b. b.ticket) rs) ≡ false =
          false_from_ne_true _ (λ h. omega (arith, s.below m S.next (rw had h))) in
          let filled = filled_content S m now (Here v rs) had in
          let left = left_again S.next rs (next_borrow S l) refl quiet in
          let same = refilled_back S m now (Here v rs) had in
          grind (arith, e, filled, left, same, known, release)
      at t to c had e = cc (ap (λ (out : Outcome T). takes_ticket out.0) e)

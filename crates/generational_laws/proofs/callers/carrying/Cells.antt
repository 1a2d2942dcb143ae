-- Cells and calls that are carried.
pub mod Common
use Rattle.std.specs.FinMap as map
use Rattle.generational_core.specs.Machine.Action.{CanRead, CanWrite, Point, ReleaseReader, SetValue}
use Rattle.generational_laws.specs.Carrying.{Mapping, map_action, map_answer}
unfoldable pub use Common.*

-- ==== tests of carried cells have the same results, and changes of them are carried

pub cond_map : {A B : Type 0} (h : A → B) (b : Bool) (x y : A) → cond b (h x) (h y) ≡ h (cond b x y)
cond_map h b x y = grind arith

pub some_map : {A B : Type 0} (h : A → B) (o : Option A) → is_some (option_map h o) ≡ is_some o
some_map h o = grind arith

-- tickets and keys compare as before
pub ticket_moved : (d a t : ℕ) → nat_eq (a + d) (t + d) ≡ nat_eq a t
ticket_moved d a t = grind arith

pub key_moved : (d a b : ℕ) → eq_by_cmp nat_cmp (a + d) (b + d) ≡ eq_by_cmp nat_cmp a b
key_moved d a b = unsigned_tied (a + d) (b + d) ∙ (ticket_moved d a b ∙ sym (unsigned_tied a b))

module _ {T U : Type 0} (f : Name → Name) (d : ℕ) (g : T → U) where
  abbrev moved_content : Content T → Content U
  moved_content = rename_content f d g

  -- a cell's moved_content, whether it is Shared, its location, and how a read of it fails
  pub cell_moved : (o : Option (Cell T)) → (let moved = option_map (rename_cell f d g) o in
      (content_of moved ≡ option_map moved_content (content_of o))
      × (is_shared moved ≡ is_shared o) × (location_of moved ≡ location_of o)
      × (read_refusal (content_of moved) ≡ read_refusal (content_of o)))
  cell_moved o = grind arith

  -- how a read, and a write, of a moved_content fail
  pub refusals_moved : (c : Option (Content T)) → (let moved = option_map moved_content c in
      (read_refusal moved ≡ read_refusal c) × (write_refusal moved ≡ write_refusal c))
  refusals_moved (Some (Here v (r ∷ readers))) =
      (refl, ap (λ ls. Some (BorrowRefusal.BeingRead (r.location ∷ ls))) (locations readers))
    where
      locations : (readers : List Borrow) → list_map (λ (b : Borrow). b.location)
          (list_map (shift_borrow f d) readers) ≡ list_map (λ b. b.location) readers
      locations [] = refl
      locations (r ∷ readers) = ap (λ ls. r.location ∷ ls) (locations readers)
  refusals_moved _ = (refl, refl)

  -- whether a ticket is a reader's, and the readers without it
  pub reader_moved : (readers : List Borrow) (t : ℕ) → list_any (λ r. nat_eq r.ticket (t + d))
      (list_map (shift_borrow f d) readers) ≡ list_any (λ r. nat_eq r.ticket t) readers
  reader_moved [] t = refl
  reader_moved (r ∷ readers) t = λ i. ticket_moved d r.ticket t i || reader_moved readers t i

  pub others_moved : (readers : List Borrow) (t : ℕ)
      → filter (λ r. not (nat_eq r.ticket (t + d))) (list_map (shift_borrow f d) readers)
      ≡ list_map (shift_borrow f d) (filter (λ r. not (nat_eq r.ticket t)) readers)
  others_moved [] t = refl
  others_moved (r ∷ readers) t = rw (ticket_moved d r.ticket t, others_moved readers t)
      (cond_map (list_map (shift_borrow f d)) (not (nat_eq r.ticket t)) _ _)

not_among : (n : Name) (names : List Name) → AllByRecursion
    (λ m. eq_by_cmp name_cmp n m ≡ false) names → list_any (eq_by_cmp name_cmp n) names ≡ false
not_among n [] d = refl
not_among n (m ∷ names) d = λ i. d.0 i || not_among n names d.1 i

-- a map is no larger than one in which each of its names has a partner, and no two have the same
pub no_larger : {X Y : Type 0} (R : Name → Name → Type 0) → ((p q k : Name) → R p k → R q k → p ≡ q)
    → (S : NameMap X) (A : NameMap Y) → ((q : Name) → is_some (map.get S q) ≡ true
    → (k : Name) × R q k × (is_some (map.get A k) ≡ true)) → map.len S ≤ map.len A
unfolding IsDistinct
no_larger {Y = Y} R one S A h = let apart = keys_apart name_cmp S in
    let le = go (map.keys S) A apart (λ q e. h q (map.contains_key-keys S q ∙ e)) in
    let len = len_keys name_cmp S in omega arith
  where
    go : (names : List Name) (A : NameMap Y) → IsDistinct (eq_by_cmp name_cmp) names
        → ((q : Name) → list_any (eq_by_cmp name_cmp q) names ≡ true
        → (k : Name) × R q k × (is_some (map.get A k) ≡ true)) → length names ≤ map.len A
    go [] A d h = omega arith
    go (n ∷ names) A d h =
        let it = h n (or_left _ _ (key_here by_name n)) in
        let le = go names (map.remove A it.0) d.1 (λ q e. let k = h q (or_right _ _ e) in
        let other : k.0 ≢ it.0 = λ is. let same = one q n it.0 (rw is at k.1) it.1 in
        let among = rw same at e in let out = not_among n names d.0 in cc in
        (k.0, k.1, rw (get-remove_apart by_name A it.0 k.0 other) k.2)) in
        let fewer = map.len-remove name_total A it.0 in let empty = map.empty_of_len A in
        let none = map.get-empty {X = Y} name_cmp it.0 in grind arith

-- P of what is there
abbrev pub IfThere : {A : Type 0} → Option A → (A → Type 0) → Type 0
IfThere None P = Unit {0}
IfThere (Some x) P = P x

-- what a Ref names is known
abbrev pub KnowsTarget : {T : Type 0} → (Name → Type 0) → Cell T → Type 0
KnowsTarget Knows (Ref m l) = Knows m
KnowsTarget Knows _ = Unit {0}

pub known_target : {T : Type 0} {Knows : Name → Type 0} (x : Option (Cell T))
    → ((m : Name) (l : Location) → x ≡ Some (Ref m l) → Knows m) → IfThere x (KnowsTarget Knows)
known_target x leads = grind arith

module _ {f : Name → Name} {Knows : Name → Type 0}
    (apart : (j k : Name) → Knows j → Knows k → f j ≡ f k → j ≡ k) where
  -- known names are distinguished as before
  pub same_test : (j k : Name) → Knows j → Knows k → is_name (f j) (f k) ≡ is_name j k
  same_test j k kj kk = grind (arith, name_here, name_apart)

  among_moved : (names : List Name) (k : Name)
      → AllByRecursion Knows names → Knows k → among (list_map f names) (f k) ≡ among names k
  among_moved [] k h kk = refl
  among_moved (n ∷ names) k h kk = λ i. same_test k n kk h.0 i || among_moved names k h.1 kk i

module _ {T U : Type 0} {f : Name → Name} {d : ℕ} {g : T → U} {Knows : Name → Type 0}
    (apart : (j k : Name) → Knows j → Knows k → f j ≡ f k → j ≡ k) where
  module _ {S : NameMap (Cell U)} {A : NameMap (Cell T)} (c : CarriesCells f d g Knows S A) where
    abbrev moved_cell : Cell T → Cell U
    moved_cell = rename_cell f d g

    live_at : (k : Name) → Knows k → is_some (map.get S (f k)) ≡ is_some (map.get A k)
    live_at k kk = ap is_some (c.at k kk) ∙ some_map moved_cell (map.get A k)

    -- as many cells are live
    pub same_size : map.len S ≡ map.len A
    same_size =
        let less = no_larger (λ q k. f k ≡ q) (λ p q k a b. sym a ∙ b) S A (λ q live.
        let it = c.from q live in (it.0, it.2, rw (← live_at it.0 it.1, it.2) live)) in
        let more = no_larger (λ k q. Knows k × (f k ≡ q))
        (λ j k q a b. apart j k a.0 b.0 (a.1 ∙ sym b.1)) A S (λ k live.
        let kk = c.known k live in (f k, (kk, refl), live_at k kk ∙ live)) in omega arith

    pub named_moved : (m : Name) → Knows m → is_named S (f m) ≡ is_named A m
    named_moved m km = grind (arith, named_gives, named_from)

    cells_keep : (p q : Name → Bool) → ((k : Name) → Knows k → p (f k) ≡ q k)
        → CarriesCells f d g Knows (map.retain_keys S p) (map.retain_keys A q)
    cells_keep p q same = grind (arith, get-keep, by_name)

    pub cells_swept : CarriesCells f d g Knows (sweep S) (sweep A)
    unfolding sweep
    cells_swept = grind (arith, cells_keep, named_moved)

    -- another moved_cell, at a known name
    pub cells_insert : (n : Name) (x : Cell T) → Knows n → KnowsTarget Knows x
        → CarriesCells f d g Knows (map.insert S (f n) (moved_cell x)) (map.insert A n x)
    cells_insert n x kn target = grind (arith, get-insert_name, name_here, name_apart)

    -- another moved_content in a known moved_cell
    pub cells_refilled : (n : Name) (x : Content T) → Knows n → CarriesCells f d g Knows
        (change S (f n) (refill (rename_content f d g x))) (change A n (refill x))
    unfolding change
    cells_refilled n x kn = let here = c.at n kn in let known = known_target _ (c.leads n) in
        let put = λ (x : Cell T). cells_insert n x kn in grind (arith, put)

  -- what is left when known names end
  pub cells_left : {S : NameMap (Cell U)} {A : NameMap (Cell T)}
      (c : CarriesCells f d g Knows S A) (names : List Name) → AllByRecursion Knows names
      → CarriesCells f d g Knows (cells_after S (list_map f names)) (cells_after A names)
  unfolding take_away
  cells_left c names h = grind (arith, cells_swept, cells_keep, among_moved)

  module _ {S L : NameMap (Cell U)} {A M : NameMap (Cell T)}
      (c : CarriesCells f d g Knows S A) (e : CarriesCells f d g Knows L M) where
    pub hindrance_at_moved : (n : Name) → Knows n → hindrance_at S L (f n) ≡ hindrance_at A M n
    hindrance_at_moved n kn =
        let x = map.get A n in let refused = (refusals_moved f d g (content_of x)).1 in
        rw (live_at e n kn, c.at n kn, (cell_moved f d g x).0, refused) refl

    pub first_moved : (names : List Name) → AllByRecursion Knows names
        → first_hindrance S L (list_map f names) ≡ first_hindrance A M names
    first_moved [] h = refl
    first_moved (n ∷ names) h =
        grind (arith, first_moved names h.1, c.at n h.0, hindrance_at_moved, known_target, c.leads)

-- ==== if one state carries another, a call has the same answer in both, and the states after it carry
-- again

-- ---- what is of a carried store, in calls and answers

module _ {T U : Type 0} (f : Name → Name) (d : ℕ) (g : T → U) where
  abbrev pub renaming : ℕ → Mapping T U
  renaming number = record {
    box = rename_box f d number;
    guard = rename_guard f d number;
    owner = shift_owner f d number;
    value = g;
  }

  abbrev pub rename_action : ℕ → Action T → Action U
  rename_action number = map_action (renaming number)

  abbrev pub rename_answer : ℕ → Answer T → Answer U
  rename_answer number = map_answer (renaming number)

-- the names in a call are known
abbrev pub KnowsCall : {T : Type 0} → (Name → Type 0) → ℕ → Action T → Type 0
KnowsCall Knows number (Refer o b) = KnowsBox Knows number b
KnowsCall Knows number (Read b l) = KnowsBox Knows number b
KnowsCall Knows number (Write b l) = KnowsBox Knows number b
KnowsCall Knows number (ReleaseReader g) = KnowsGuard Knows number g
KnowsCall Knows number (ReleaseWriter g v) = KnowsGuard Knows number g
KnowsCall Knows number (SetValue b v) = KnowsBox Knows number b
KnowsCall Knows number (End b) = KnowsBox Knows number b
KnowsCall Knows number (Point a b) = KnowsBox Knows number a × KnowsBox Knows number b
KnowsCall Knows number (CanRead b) = KnowsBox Knows number b
KnowsCall Knows number (CanWrite b) = KnowsBox Knows number b
KnowsCall Knows number _ = Unit {0}

-- the names in an answer are known
abbrev pub KnowsAnswer : {T : Type 0} → (Name → Type 0) → ℕ → Answer T → Type 0
KnowsAnswer Knows number (Made b) = KnowsBox Knows number b
KnowsAnswer Knows number (Reads g) = KnowsGuard Knows number g
KnowsAnswer Knows number (Writes g v) = KnowsGuard Knows number g
KnowsAnswer Knows number _ = Unit {0}

-- the new names that a call takes are known
abbrev pub KnowsNewNames : {T : Type 0} → (Name → Type 0) → Action T → NewNames → Type 0
KnowsNewNames Knows (Make o v l) new = Knows new.first
KnowsNewNames Knows (MakeShared o v l) new = Knows new.first × Knows new.second
KnowsNewNames Knows (Refer o b) new = Knows new.first
KnowsNewNames Knows _ new = Unit {0}

abbrev pub rename_new_names : (Name → Name) → NewNames → NewNames
rename_new_names f new = record { first = f new.first; second = f new.second }

-- ---- outcomes that match

-- two outcomes, the first of which is the second one, renamed
pub record Matched {T U : Type 0} (f : Name → Name) (d : ℕ) (g : T → U)
    (Knows : Name → Type 0) (number : ℕ) (out : Outcome U) (was : Outcome T) : Type 0 where
  pub answer : out.0 ≡ rename_answer f d g number was.0
  pub state : Carries f d g Knows out.1 was.1
  pub same : was.1.number ≡ number
  pub known : KnowsAnswer Knows number was.0

-- what holds of a list and of another element holds of both together
pub all_push : {X : Type 0} (P : X → Type 0) (xs : List X) (x : X)
    → AllByRecursion P xs → P x → AllByRecursion P (xs ++ x ∷ [])
all_push P [] x h k = (k, tt)
all_push P (y ∷ xs) x h k = (h.0, all_push P xs x h.1 k)

-- two boxes are the same as before
pub same_box_moved : (f : Name → Name) (d : ℕ) {Knows : Name → Type 0}
    (apart : (j k : Name) → Knows j → Knows k → f j ≡ f k → j ≡ k)
    (number : ℕ) (a b : GenerationalPointer) → KnowsBox Knows number a → KnowsBox Knows number b
    → has_same_id (rename_box f d number a) (rename_box f d number b) ≡ has_same_id a b
same_box_moved f d apart number a b ka kb = grind arith

module _ {T U : Type 0} {f : Name → Name} {d : ℕ} {g : T → U}
    {Knows : Name → Type 0} {S : State U} {A : State T} (c : Carries f d g Knows S A) where
  -- what is renamed, and an owner that is of this store
  abbrev box : GenerationalPointer → GenerationalPointer
  box = rename_box f d A.number

  abbrev owner : OwnerName → OwnerName
  owner = shift_owner f d A.number

  abbrev own_owner : OwnerName → OwnerName
  own_owner o = record { store = A.number; key = o.key + d }

  abbrev owner_record : Ownership → Ownership
  owner_record = rename_ownership f d

  abbrev cell : Cell T → Cell U
  cell = rename_cell f d g

  abbrev content : Content T → Content U
  content = rename_content f d g

  abbrev Alike : Outcome U → Outcome T → Type 0
  Alike out was = Matched f d g Knows A.number out was

  matches : {a : Answer U} {b : Answer T} {R : State U} {B : State T}
      → a ≡ rename_answer f d g A.number b → KnowsAnswer Knows A.number b
      → B.number ≡ A.number → Carries f d g Knows R B → Alike (a, R) (b, B)
  matches e k n s = record { answer = e; state = s; same = n; known = k }

  -- nothing changes, and the answers are the same
  stays : {a : Answer U} (b : Answer T)
      → a ≡ rename_answer f d g A.number b → KnowsAnswer Knows A.number b → Alike (a, S) (b, A)
  stays b e k = matches e k refl c

  -- two outcomes by the same test, and with the same error
  if_alike : {b e : Bool} {x y : Outcome U} {v w : Outcome T}
      → b ≡ e → (e ≡ true → Alike x v) → Alike y w → Alike (cond b x y) (cond e v w)
  if_alike is h k = grind arith

  unless_alike : {t u : Option BorrowRefusal} {x : Outcome U} {v : Outcome T}
      → t ≡ u → Alike x v → Alike (unless t S x) (unless u A v)
  unless_alike e h = grind arith

  -- what is of this store has its number in both states, and what is of another in neither
  own_number : nat_eq A.number S.number ≡ true
  own_number = eq-eqb A.number S.number (sym c.number)

  by_store : {X : Type 0} (store : ℕ) → (nat_eq store A.number ≡ true → X)
      → (nat_eq store A.number ≡ false → nat_eq store S.number ≡ false → X) → X
  by_store store own other = grind arith

  -- a box keeps its location
  pub created_moved : (b : GenerationalPointer) → (box b).created_at ≡ b.created_at
  created_moved b = by_store b.id.store (λ e. rw e refl) (λ e _. rw e refl)

  -- a box reaches nothing in both states, or a known name
  pub reach_cases : (b : GenerationalPointer) → KnowsBox Knows A.number b
      → ((reach S (box b) ≡ None) × (reach A b ≡ None))
      ⊎ ((n : Name) × Knows n × (reach S (box b) ≡ Some (f n)) × (reach A b ≡ Some n))
  unfolding reach
  reach_cases b k = grind arith

  pub content_there : (n : Name)
      → Knows n → content_at S (f n) ≡ option_map content (content_at A n)
  content_there n kn = ap content_of (c.cells.at n kn) ∙ (cell_moved f d g (map.get A.cells n)).0

  -- an owner, and its record
  by_owner : (o : OwnerName) → (P : OwnerName → Option Ownership → Option Ownership → Type 0)
      → ((x : OwnerName) → P x None None) → ((h : Ownership) → map.get A.owners o.key ≡ Some h
      → own_owner o ≡ owner o → P (own_owner o) (Some (owner_record h)) (Some h))
      → P (owner o) (ownership S (owner o)) (ownership A o)
  by_owner o P none some = grind arith

  known_moved : (o : Option OwnerName) → is_known S (option_map owner o) ≡ is_known A o
  known_moved o = grind arith

  with_cells : {new : NameMap (Cell U)} {old : NameMap (Cell T)} → CarriesCells f d g Knows new old
      → Carries f d g Knows (record S { cells = new }) (record A { cells = old })
  with_cells cells = assumption (cells, c)

  -- another ticket in both
  next_moved : Carries f d g Knows (take_ticket S) (take_ticket A)
  next_moved = grind arith

  -- another content in a known cell
  with_content : (n : Name) (x : Content U) (y : Content T)
      → Knows n → x ≡ content y → Carries f d g Knows (fill S (f n) x) (fill A n y)
  with_content n x y kn e = with_cells (rw e (cells_refilled c.apart c.cells n y kn))

  -- a new cell at a known name
  pub with_born : (n : Name) (x : Cell T) → Knows n → KnowsTarget Knows x
      → Carries f d g Knows (add_cell S (f n) (cell x)) (add_cell A n x)
  with_born n x kn target = let more = cells_insert c.apart c.cells n x kn target in
      let size = same_size c.apart more in grind (arith, contains-insert_name, same_test c.apart)

  -- a record put in, or removed
  with_record : (key : ℕ) (h : Option Ownership) → IfThere h (λ h. AllByRecursion Knows h.names)
      → (owners held : Owners)
      → ((q : ℕ) → map.get owners q
      ≡ cond (eq_by_cmp nat_cmp q (key + d)) (option_map owner_record h) (map.get S.owners q))
      → ((q : ℕ) → map.get held q ≡ cond (eq_by_cmp nat_cmp q key) h (map.get A.owners q))
      → Carries f d g Knows (record S { owners = owners }) (record A { owners = held })
  with_record key h k owners held s a =
      let moved : (q : ℕ) → map.get owners (q + d) ≡ option_map owner_record (map.get held q) =
      λ q. grind (arith, s (q + d), a q, key_moved d q key, c.owners q) in
      let low : (q : ℕ) → is_some (map.get owners q) ≡ true → d ≤ q =
      λ q live. grind (arith, s q, c.keys q, key_same by_number q (key + d)) in
      let known : (q : ℕ) (x : Ownership) → map.get held q ≡ Some x → AllByRecursion Knows x.names =
      λ q x is. grind (arith, a q, c.listed q x) in
      assumption (moved, low, known, c)

  record_put : (key : ℕ) (h : Ownership) → AllByRecursion Knows h.names
      → Carries f d g Knows (set_ownership S (key + d) (owner_record h)) (set_ownership A key h)
  record_put key h k = with_record key (Some h) k _ _ (map.get-insert nat_cmp_total
      S.owners (key + d) (owner_record h)) (map.get-insert nat_cmp_total A.owners key h)

  -- a name at the end of an owner's list
  listed_alike : (o : Option OwnerName) (n : Name) → is_known A o ≡ true → Knows n
      → Carries f d g Knows (add_to_list S (option_map owner o) (f n)) (add_to_list A o n)
      × ((add_to_list A o n).number ≡ A.number)
  listed_alike None n live k = (c, refl)
  listed_alike (Some o) n live k = (
    by_owner o (λ x y z. is_some z ≡ true → Carries f d g Knows (add_to_list S (Some x) (f n))
        (add_to_list A (Some o) n)) (λ x e. cc) (λ h is _ _.
        let mine = changed_there by_number A.owners o.key (one_listed n) h is in
        let other = changed_there by_number S.owners (o.key + d) (one_listed (f n)) (owner_record h)
        (rw (c.owners o.key, is)) in rw (mine, other, ← map-append f h.names (n ∷ []))
        (record_put o.key (one_listed n h)
        (all_push Knows h.names n (c.listed o.key h is) k))) live,
    refl,
  )

  -- known names end, and the same hinders them
  end_names : (names : List Name) → AllByRecursion Knows names
      → Carries f d g Knows (close S (list_map f names)) (close A names)
      × (hindrance_to S (list_map f names) ≡ hindrance_to A names)
  unfolding hindrance_to
  end_names names k = grind (arith, cells_left, first_moved)

  unknown_alike : Alike (Refused UnknownOwner, S) (Refused UnknownOwner, A)
  unknown_alike = stays (Refused UnknownOwner) refl tt

  -- a call on a box whose value is gone fails with its own location in both
  drop_alike : (b : GenerationalPointer)
      → Alike (BorrowRefused (Dropped (box b).created_at), S) (BorrowRefused (Dropped b.created_at), A)
  drop_alike b = stays (BorrowRefused (Dropped b.created_at)) (rw (created_moved b)) tt

  end_alike : (names : List Name) → AllByRecursion Knows names
      → Alike (unless (hindrance_to S (list_map f names)) S (Done, close S (list_map f names)))
      (unless (hindrance_to A names) A (Done, close A names))
  end_alike names k = let end = end_names names k in unless_alike end.1 (matches refl tt refl end.0)

  set_alike : (b : GenerationalPointer) (v : T) (n : Name) (x : Option (Content T)) → Knows n
      → Alike (set_at S (box b) (g v) (Some (f n)) (option_map content x)) (set_at A b v (Some n) x)
  set_alike b v n x k = let put = with_content n _ (Here v []) k refl in grind arith

  reader_alike : (n : Name) (t : ℕ) (y : Option (Content T)) → Knows n → Alike
      (cond (has_reader (option_map content y) (t + d))
      (Flag true, remove_reader S (f n) (t + d) (option_map content y)) (Flag false, S))
      (cond (has_reader y t) (Flag true, remove_reader A n t y) (Flag false, A))
  reader_alike n t (Some (Here v readers)) k = if_alike (reader_moved f d g readers t) (λ _. matches
      refl tt refl (with_content n _ (Here v (filter (λ r. not (nat_eq r.ticket t)) readers)) k
      (ap (Here (g v)) (others_moved f d g readers t)))) (stays (Flag false) refl tt)
  reader_alike n t _ k = stays (Flag false) refl tt

  writer_alike : (v : T) (n : Name) (t : ℕ) (y : Option (Content T)) → Knows n → Alike
      (cond (has_writer (option_map content y) (t + d)) (Done, fill S (f n) (Here (g v) []))
      (Back (g v), S)) (cond (has_writer y t) (Done, fill A n (Here v [])) (Back v, A))
  writer_alike v n t y k =
      let put = with_content n _ (Here v []) k refl in grind (arith, ticket_moved)

  point_alike : (a b : GenerationalPointer) (new : Name) (y : Option (Cell T))
      → KnowsBox Knows A.number a → Knows new
      → Alike (point S (box a) (box b) (own_cell S (box a).id) (Some (f new))
      (option_map cell y)) (point A a b (own_cell A a.id) (Some new) y)
  point_alike a b new y ka k = by_store a.id.store
      (λ own. rw (own, own_number, c.cells.at (name_of a) (ka own))
      (at (map.get A.cells (name_of a)) y (known_target _ (c.cells.leads (name_of a))) (ka own)))
      (λ s t. rw (s, t) (stays (BorrowRefused (Dropped a.created_at)) refl tt))
    where
      at : (x y : Option (Cell T)) → IfThere x (KnowsTarget Knows) → Knows (name_of a)
          → Alike (point S (box_of A.number (f (name_of a)) a.created_at) (box b)
          (option_map cell x) (Some (f new)) (option_map cell y)) (point A a b x (Some new) y)
      at None y kx kn = stays (BorrowRefused (Dropped a.created_at)) refl tt
      at (Some (Ref old l)) (Some (Shared y j)) kx kn =
          let cells = cells_swept c.apart
          (cells_insert c.apart c.cells (name_of a) (Ref new l) kn k) in
          if_alike (same_test c.apart old new kx k) (λ _. stays Done refl tt)
          (unless_alike (hindrance_at_moved c.apart c.cells cells old kx)
          (matches refl tt refl (with_cells cells)))
      at x y kx kn = stays (BorrowRefused (Dropped (unwrap_or (location_of y) b.created_at)))
          (λ i. BorrowRefused (Dropped (unwrap_or ((cell_moved f d g y).2 i) (created_moved b i)))) tt

module _ {T U : Type 0} {f : Name → Name} {d : ℕ} {g : T → U}
    {Knows : Name → Type 0} {S : State U} {A : State T} (c : Carries f d g Knows S A) where
  make_alike : (o : Option OwnerName) (n : Name) (x : Cell T) (l : Location)
      → KnowsTarget Knows x → Knows n → is_known A o ≡ true
      → Alike c (make S (option_map (owner c) o) (f n) (cell c x) l) (make A o n x l)
  make_alike o n x l target kn ko =
      let listed = listed_alike (with_born c n x kn target) o n ko kn in grind arith

  refer_alike : (o : Option OwnerName) (b : GenerationalPointer) (n : Name) → Knows n
      → is_known A o ≡ true → (m : Name) (x : Option (Cell T)) → Knows m → Alike c (refer S
      (option_map (owner c) o) (box c b) (Some (f m)) (option_map (cell c) x) (f n))
      (refer A o b (Some m) x n)
  refer_alike o b n kn ko m x km = let made = λ (l : Location). make_alike o n (Ref m l) l km kn ko
      in grind (arith, made, created_moved c b)

  read_alike : (l : Location) (n : Name) (x : Option (Content T)) → Knows n
      → Alike c (read_at S l (Some (f n)) (option_map (content c) x)) (read_at A l (Some n) x)
  read_alike l n (Some (Here v readers)) k =
      matches c (rw (nat_eq_equiv.refl A.number, c.number, c.next) refl) (λ _. k) refl (next_moved
      (with_content c n _ (Here v (readers ++ next_borrow A l ∷ [])) k
      (rw (map-append (shift_borrow f d) readers (next_borrow A l ∷ []), c.next) refl)))
  read_alike l n _ k = stays c Done refl tt

  write_alike : (l : Location) (n : Name) (x : Option (Content T)) → Knows n
      → Alike c (write_at S l (Some (f n)) (option_map (content c) x)) (write_at A l (Some n) x)
  write_alike l n x k = let lent = next_moved (with_content c n (Lent (next_borrow S l))
      (Lent (next_borrow A l)) k (rw c.next refl)) in grind arith

  -- a box that may be read, or written, may be so in both
  pub read_moved : (b : GenerationalPointer) → KnowsBox Knows A.number b
      → can_read S (rename_box f d A.number b) ≡ can_read A b
  unfolding refusal_to_read
  read_moved b k = grind (arith, reach_cases)

  pub write_moved : (b : GenerationalPointer) → KnowsBox Knows A.number b
      → can_write S (rename_box f d A.number b) ≡ can_write A b
  unfolding refusal_to_write
  write_moved b k = grind (arith, reach_cases)

  -- each call of a carried state matches the call of the state that carries it
  pub act_matched : (call : Action T) (new : NewNames)
      → KnowsCall Knows A.number call → KnowsNewNames Knows call new
      → Alike c (act S (rename_action f d g A.number call) (rename_new_names f new)) (act A call new)
  unfolding refusal_to_read refusal_to_write
  act_matched (Action.Make o v l) new k kn = if_alike c (known_moved c o)
      (make_alike o new.first (Value (Here v []) l) l tt kn) (unknown_alike c)
  act_matched (Action.MakeShared o v l) new k kn = if_alike c (known_moved c o) (λ ko.
      let listed = listed_alike (with_born (with_born c new.first (Shared (Here v []) l) kn.0 tt)
      new.second (Ref new.first l) kn.1 kn.0) o new.second ko kn.1 in
      matches c (rw (nat_eq_equiv.refl A.number, c.number) refl) (λ _. kn.1) listed.1 listed.0)
      (unknown_alike c)
  act_matched (Action.Refer o b) new k kn = if_alike c (known_moved c o) (λ ko. ⊎_elim
      (λ e. rw (e.0, e.1) (drop_alike c b)) (λ e. rw (e.2, e.3, c.cells.at e.0 e.1)
      (unless_alike c ((cell_moved f d g (map.get A.cells e.0)).3)
      (refer_alike o b new.first kn ko e.0 (map.get A.cells e.0) e.1)))
      (reach_cases c b k)) (unknown_alike c)
  act_matched Action.NewOwner new k kn =
      matches c (rw (nat_eq_equiv.refl A.number, c.number, c.next) refl) tt refl
      (next_moved (rw (sym c.next) at (record_put c A.next (record { names = []; count = 1 }) tt)))
  act_matched (Action.CloneOwner o) new k kn = by_owner c o (λ x y z. Alike c (clone_owner S x y)
      (clone_owner A o z)) (λ x. unknown_alike c) (λ h is same. matches c (ap Owned same) tt refl
      (next_moved (record_put c o.key (record h { count = h.count + 1 }) (c.listed o.key h is))))
  act_matched (Action.ReleaseOwner o) new k kn =
      by_owner c o (λ x y z. Alike c (release_owner S x y) (release_owner A o z))
      (λ x. unknown_alike c)
      (λ h is _. let names = c.listed o.key h is in let end = end_names c h.names names in
      if_alike c {b = nat_lt 1 h.count} {e = nat_lt 1 h.count} refl (λ _. matches c refl tt refl
      (record_put c o.key (record h { count = h.count - 1 }) names))
      (unless_alike c end.1 (matches c refl tt refl (with_record end.0 o.key None tt _ _
      (map.get-remove nat_cmp_total S.owners (o.key + d))
      (map.get-remove nat_cmp_total A.owners o.key)))))
  act_matched (Action.LeakOwner o) new k kn = stays c Done refl tt
  act_matched (Action.Read b l) new k kn = ⊎_elim (λ e. rw (e.0, e.1) (drop_alike c b))
      (λ e. rw (e.2, e.3, content_there c e.0 e.1)
      (unless_alike c (refusals_moved f d g (content_at A e.0)).0
      (read_alike l e.0 (content_at A e.0) e.1))) (reach_cases c b k)
  act_matched (Action.Write b l) new k kn = ⊎_elim (λ e. rw (e.0, e.1) (drop_alike c b))
      (λ e. rw (e.2, e.3, content_there c e.0 e.1)
      (unless_alike c (refusals_moved f d g (content_at A e.0)).1
      (write_alike l e.0 (content_at A e.0) e.1))) (reach_cases c b k)
  act_matched (Action.ReleaseReader x) new k kn = by_store c
      x.store (λ own. rw (own, own_number c, content_there c x.cell (k own)) (reader_alike c x.cell
      x.ticket (content_at A x.cell) (k own))) (λ s t. rw (s, t) (stays c (Flag false) refl tt))
  act_matched (Action.ReleaseWriter x v) new k kn = by_store c
      x.store (λ own. rw (own, own_number c, content_there c x.cell (k own)) (writer_alike c v
      x.cell x.ticket (content_at A x.cell) (k own))) (λ s t. rw (s, t) (stays c (Back v) refl tt))
  act_matched (Action.SetValue b v) new k kn = ⊎_elim (λ e. rw (e.0, e.1) (drop_alike c b))
      (λ e. rw (e.2, e.3, content_there c e.0 e.1) (set_alike c b v e.0 (content_at A e.0) e.1))
      (reach_cases c b k)
  act_matched (Action.End b) new k kn = by_store c b.id.store (λ own. rw (own, own_number c)
      (end_alike c (name_of b ∷ []) (k own, tt))) (λ s t. rw (s, t) (end_alike c [] tt))
  act_matched (Action.Point a b) new k kn =
      if_alike c (same_box_moved f d c.apart A.number a b k.0 k.1) (λ _. stays c Done refl tt)
      (⊎_elim (λ e. rw (e.0, e.1) (drop_alike c b)) (λ e. rw (e.2, e.3, c.cells.at e.0 e.1)
      (unless_alike c ((cell_moved f d g (map.get A.cells e.0)).3)
      (point_alike c a b e.0 (map.get A.cells e.0) k.0 e.1))) (reach_cases c b k.1))
  act_matched (Action.CanRead b) new k kn = stays c (Flag _) (ap Flag (read_moved b k)) tt
  act_matched (Action.CanWrite b) new k kn = stays c (Flag _) (ap Flag (write_moved b k)) tt

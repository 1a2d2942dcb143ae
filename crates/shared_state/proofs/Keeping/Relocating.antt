-- Neither the machine nor a replay depends on where texts are in memory.
pub mod Weighing
use Rattle.std.proofs.Common.{T as IsTrue}
use Rattle.std.specs.FinMap as map
use Rattle.std.specs.FinSet as set
use Rattle.generational_core.specs.Borrowing.BorrowRefusal.{BeingRead, BeingWritten}
use Rattle.generational_core.specs.declared.steps.StepCall.TheVariants as call
unfoldable pub use Weighing.*

-- ==== the machine ignores locations: a call, and a recorded step, does the same if each location is
-- turned

-- ---- a map with a function of each of its values

module _ {X Y : Type 0} (h : X → Y) where
  abbrev listed : List (Name × X) → List (Name × Y)
  listed es = list_map (λ (e : Name × X). (e.0, h e.1)) es

  below_each : (x : Name) (es : List (Name × X))
      → below_all name_cmp x (listed es) ≡ below_all name_cmp x es
  below_each x [] = refl
  below_each x (e ∷ es) = ap (λ b. is_lt (name_cmp x e.0) && b) (below_each x es)

  sorted_each : (es : List (Name × X)) → map.is_sorted name_cmp (listed es) ≡ map.is_sorted name_cmp es
  sorted_each [] = refl
  sorted_each (e ∷ es) = λ i. below_each e.0 es i && sorted_each es i

  find_each : (q : Name) (es : List (Name × X))
      → map.find name_cmp q (listed es) ≡ option_map h (map.find name_cmp q es)
  find_each q [] = refl
  find_each q (e ∷ es) = grind (arith, find_each q es)

  keys_listed : (es : List (Name × X))
      → list_map (λ (e : Name × Y). e.0) (listed es) ≡ list_map (λ (e : Name × X). e.0) es
  keys_listed [] = refl
  keys_listed (e ∷ es) = ap (λ ks. e.0 ∷ ks) (keys_listed es)

  unfoldable pub each : NameMap X → NameMap Y
  each m = map.from_sorted (listed (map.entries m))

  module _ (m : NameMap X) where
    entries_each : map.entries (each m) ≡ listed (map.entries m)
    unfolding each
    entries_each = map.entries-from_sorted name_cmp _
        (subst IsTrue (sym (sorted_each (map.entries m))) (map.entries_sorted m))

    pub get_each : (q : Name) → map.get (each m) q ≡ option_map h (map.get m q)
    get_each q = rw (map.get-entries (each m) q, entries_each, find_each, map.get-entries m q)

    pub keys_each : map.keys (each m) ≡ map.keys m
    keys_each = rw entries_each (keys_listed (map.entries m))

    pub len_each : map.len (each m) ≡ map.len m
    len_each = rw (map.len-entries (each m), entries_each, map.len-entries m) (length-map (map.entries m) _)

    pub each_is : (C : NameMap Y) → ((q : Name) → map.get C q ≡ option_map h (map.get m q)) → C ≡ each m
    each_is C at = map.same_map name_total name_exact C (each m) (λ q. at q ∙ sym (get_each q))

  pub insert_each : (m : NameMap X) (n : Name) (x : X) → each (map.insert m n x) ≡ map.insert (each m) n (h x)
  insert_each m n x = sym (each_is (map.insert m n x) _ (λ q. rw (get-insert_name, get_each, get-insert_name) (grind arith)))

  pub keep_each : (m : NameMap X) (p : Name → Bool) → each (map.retain_keys m p) ≡ map.retain_keys (each m) p
  keep_each m p = sym (each_is (map.retain_keys m p) _ (λ q. rw (get-keep by_name, get_each, get-keep by_name) (grind arith)))

  pub change_each : (m : NameMap X) (n : Name) (f : Y → Y) (g : X → X) → ((x : X) → h (g x) ≡ f (h x))
      → each (change m n g) ≡ change (each m) n f
  unfolding change
  change_each m n f g same = grind (arith, get_each, insert_each, same)

-- ---- errors, calls and answers in which each location is turned

module _ (p : Location → Location) where
  abbrev relocate_refusal : BorrowRefusal → BorrowRefusal
  relocate_refusal (Dropped l) = Dropped (p l)
  relocate_refusal (BeingWritten l) = BeingWritten (p l)
  relocate_refusal (BeingRead ls) = BeingRead (list_map p ls)

  module _ {T : Type 0} where
    abbrev relocate_action : Action T → Action T
    relocate_action (Make o v l) = Make o v (p l)
    relocate_action (MakeShared o v l) = MakeShared o v (p l)
    relocate_action (Refer o b) = Refer o (relocate_box p b)
    relocate_action (Read b l) = Read (relocate_box p b) (p l)
    relocate_action (Write b l) = Write (relocate_box p b) (p l)
    relocate_action (SetValue b v) = SetValue (relocate_box p b) v
    relocate_action (End b) = End (relocate_box p b)
    relocate_action (Point a b) = Point (relocate_box p a) (relocate_box p b)
    relocate_action (CanRead b) = CanRead (relocate_box p b)
    relocate_action (CanWrite b) = CanWrite (relocate_box p b)
    relocate_action a = a

    abbrev relocate_answer : Answer T → Answer T
    relocate_answer (Made b) = Made (relocate_box p b)
    relocate_answer (BorrowRefused t) = BorrowRefused (relocate_refusal t)
    relocate_answer a = a

  -- the test of two locations gives the same after the turn
  abbrev KeepsTest : Type 0
  KeepsTest = (a b : Location) → same_location (p a) (p b) ≡ same_location a b

module _ (p : Location → Location) where
  abbrev refusal : Option BorrowRefusal → Option BorrowRefusal
  refusal = option_map (relocate_refusal p)

  locations : (readers : List Borrow) → list_map (λ (b : Borrow). b.location) (list_map (relocate_borrow p) readers)
      ≡ list_map p (list_map (λ (b : Borrow). b.location) readers)
  locations [] = refl
  locations (r ∷ readers) = ap (λ ls. p r.location ∷ ls) (locations readers)

  readers_turned : (readers : List Borrow) (t : ℕ)
      → (list_any (λ (r : Borrow). nat_eq r.ticket t) (list_map (relocate_borrow p) readers)
      ≡ list_any (λ (r : Borrow). nat_eq r.ticket t) readers)
      × (filter (λ (r : Borrow). not (nat_eq r.ticket t)) (list_map (relocate_borrow p) readers)
      ≡ list_map (relocate_borrow p) (filter (λ (r : Borrow). not (nat_eq r.ticket t)) readers))
  readers_turned [] t = (refl, refl)
  readers_turned (r ∷ readers) t = grind (arith, readers_turned readers t)

module _ {T : Type 0} (p : Location → Location) where
  abbrev cell : Cell T → Cell T
  cell = relocate_cell p

  abbrev content : Content T → Content T
  content = relocate_content p

  -- ---- tests of a cell, and of a content

  cell_turned : (x : Option (Cell T)) (n : Name) (l : Location) → (let moved = option_map cell x in
      (leads_to moved n ≡ leads_to x n) × (content_of moved ≡ option_map content (content_of x))
      × (is_shared moved ≡ is_shared x) × (refers_to n moved ≡ refers_to n x)
      × (unwrap_or (location_of moved) (p l) ≡ p (unwrap_or (location_of x) l)))
  cell_turned x n l = grind arith

  -- ---- what is done to cells

  module _ (cells : NameMap (Cell T)) where
    named_turned : (m : Name) → is_named (each cell cells) m ≡ is_named cells m
    unfolding is_named
    named_turned m =
        let same : (n : Name) → refers_to m (map.get (each cell cells) n) ≡ refers_to m (map.get cells n) =
        λ n. grind (arith, get_each, cell_turned) in
        λ i. list_any (λ n. same n i) (keys_each cell cells i)

    keep_turned : (f g : Name → Bool) → ((n : Name) → f n ≡ g n)
        → each cell (map.retain_keys cells f) ≡ map.retain_keys (each cell cells) g
    keep_turned f g same = keep_each cell cells f ∙ ap (map.retain_keys (each cell cells)) (λ i n. same n i)

    sweep_turned : each cell (sweep cells) ≡ sweep (each cell cells)
    unfolding sweep
    sweep_turned = keep_turned _ _ (λ n. grind (arith, get_each, cell_turned, named_turned))

    without_turned : (names : List Name) → each cell (take_away cells names) ≡ take_away (each cell cells) names
    unfolding take_away
    without_turned names = keep_turned _ _ (λ n. grind (arith, get_each, cell_turned))

    fill_turned : (n : Name) (x : Content T) → each cell (change cells n (refill x))
        ≡ change (each cell cells) n (refill (content x))
    fill_turned n x = change_each cell cells n _ _ (λ y. grind arith)

  after_turned : (cells : NameMap (Cell T)) (names : List Name)
      → each cell (cells_after cells names) ≡ cells_after (each cell cells) names
  after_turned cells names = grind (arith, sweep_turned (take_away cells names), without_turned)

  hindrance_at_turned : (cells left : NameMap (Cell T)) (n : Name)
      → hindrance_at (each cell cells) (each cell left) n ≡ refusal p (hindrance_at cells left n)
  hindrance_at_turned cells left n = grind (arith, get_each, cell_turned, locations p)

  first_turned : (cells left : NameMap (Cell T)) (names : List Name)
      → first_hindrance (each cell cells) (each cell left) names ≡ refusal p (first_hindrance cells left names)
  first_turned cells left [] = refl
  first_turned cells left (n ∷ names) =
      grind (arith, first_turned cells left names, get_each, hindrance_at_turned)

  -- ---- what is done to states

  abbrev pub turned : State T → State T
  turned S = record S { cells = each cell S.cells }

  abbrev pub turned_out : Outcome T → Outcome T
  turned_out out = (relocate_answer p out.0, turned out.1)

  module _ (S : State T) where
    reach_turned : (b : GenerationalPointer) → reach (turned S) (relocate_box p b) ≡ reach S b
    unfolding reach
    reach_turned b = grind (arith, get_each, cell_turned)

    refused_turned : (b : GenerationalPointer)
        → (refusal_to_read (turned S) (relocate_box p b) ≡ refusal p (refusal_to_read S b))
        × (refusal_to_write (turned S) (relocate_box p b) ≡ refusal p (refusal_to_write S b))
    unfolding refusal_to_read refusal_to_write
    refused_turned b = grind (arith, reach_turned, get_each, cell_turned, locations p)

    hindered_turned : (names : List Name) → hindrance_to (turned S) names ≡ refusal p (hindrance_to S names)
    unfolding hindrance_to
    hindered_turned names = rw (← after_turned S.cells names) (first_turned S.cells _ names)

    add_turned : (n : Name) (x : Cell T) → turned (add_cell S n x) ≡ add_cell (turned S) n (cell x)
    add_turned n x = rw (← insert_each cell S.cells n x, len_each)

    list_turned : (o : Option OwnerName) (n : Name) → turned (add_to_list S o n) ≡ add_to_list (turned S) o n
    list_turned o n = grind arith

    -- ---- each call

    make_turned : (o : Option OwnerName) (n : Name) (x : Cell T) (l : Location)
        → make (turned S) o n (cell x) (p l) ≡ turned_out (make S o n x l)
    make_turned o n x l = grind (arith, add_turned n x, list_turned)

    refer_turned : (o : Option OwnerName) (b : GenerationalPointer) (new : NewNames)
        → act (turned S) (relocate_action p (Refer o b)) new ≡ turned_out (act S (Refer o b) new)
    refer_turned o b new = grind (arith, reach_turned, refused_turned, get_each, insert_each, len_each)

    -- what is at what was reached
    at_turned : (m : Option Name)
        → content_of (cell_at (turned S) m) ≡ option_map content (content_of (cell_at S m))
    at_turned m = grind (arith, get_each, cell_turned)

    own_turned : (id : GenerationalBoxId) (m : Option Name)
        → (own_cell (turned S) id ≡ option_map cell (own_cell S id))
        × (cell_at (turned S) m ≡ option_map cell (cell_at S m))
    own_turned id m = grind (arith, get_each)

    read_at_turned : (l : Location) (m : Option Name) (c : Option (Content T))
        → read_at (turned S) (p l) m (option_map content c) ≡ turned_out (read_at S l m c)
    read_at_turned l (Some n) (Some (Here v readers)) = let more = next_borrow S l ∷ [] in
        rw (fill_turned S.cells n (Here v (readers ++ more)), map-append (relocate_borrow p) readers more)
    read_at_turned l m c = refl

    write_at_turned : (l : Location) (m : Option Name) (c : Option (Content T))
        → write_at (turned S) (p l) m (option_map content c) ≡ turned_out (write_at S l m c)
    write_at_turned l (Some n) (Some (Here v readers)) = rw (fill_turned S.cells n (Lent (next_borrow S l)))
    write_at_turned l m c = refl

    set_at_turned : (b : GenerationalPointer) (v : T) (m : Option Name) (c : Option (Content T))
        → set_at (turned S) (relocate_box p b) v m (option_map content c) ≡ turned_out (set_at S b v m c)
    set_at_turned b v (Some n) (Some (Here old [])) = rw (fill_turned S.cells n (Here v []))
    set_at_turned b v m c = refl

    removed_turned : (n : Name) (t : ℕ) (c : Option (Content T))
        → remove_reader (turned S) n t (option_map content c) ≡ turned (remove_reader S n t c)
    removed_turned n t (Some (Here v readers)) =
        rw (fill_turned S.cells n (Here v (filter (λ r. not (nat_eq r.ticket t)) readers)), (readers_turned p readers t).1)
    removed_turned n t c = refl

    known_turned : (t : ℕ) (c : Option (Content T)) → (has_reader (option_map content c) t ≡ has_reader c t)
        × (has_writer (option_map content c) t ≡ has_writer c t)
    known_turned t c = grind (arith, readers_turned p)

    point_turned : (a b : GenerationalPointer) (x : Option (Cell T)) (m : Option Name) (y : Option (Cell T))
        → point (turned S) (relocate_box p a) (relocate_box p b) (option_map cell x) m (option_map cell y)
        ≡ turned_out (point S a b x m y)
    point_turned a b (Some (Ref old l)) (Some new) (Some (Shared c k)) =
        rw (← insert_each cell S.cells (name_of a) (Ref new l), ← sweep_turned, hindrance_at_turned) (grind arith)
    point_turned a b x m y = grind arith

  -- a call of a turned state has the turned answer, and leaves the turned state
  pub act_turned : (S : State T) (call : Action T) (new : NewNames)
      → act (turned S) (relocate_action p call) new ≡ turned_out (act S call new)
  act_turned S (Make o v l) new =
      rw (make_turned S o new.first (Value (Here v []) l) l) (grind arith)
  act_turned S (MakeShared o v l) new = let x : Cell T = Shared (Here v []) l in
      ap (λ Q. cond (is_known S o) (make Q o new.second (Ref new.first (p l)) (p l)) (Refused UnknownOwner, turned S))
      (sym (add_turned S new.first x))
      ∙ rw (make_turned (add_cell S new.first x) o new.second (Ref new.first l) l) (grind arith)
  act_turned S (Refer o b) new = refer_turned S o b new
  act_turned S (Read b l) new =
      rw (reach_turned, (refused_turned S b).0, at_turned, read_at_turned) (grind arith)
  act_turned S (Write b l) new =
      rw (reach_turned, (refused_turned S b).1, at_turned, write_at_turned) (grind arith)
  act_turned S (ReleaseReader g) new = grind (arith, at_turned S (Some g.cell), known_turned, removed_turned)
  act_turned S (ReleaseWriter g v) new = grind (arith, at_turned S (Some g.cell), known_turned, fill_turned S.cells g.cell (Here v []))
  act_turned S (SetValue b v) new = rw (reach_turned, at_turned) (set_at_turned S b v _ _)
  act_turned S (Point a b) new = grind (arith, reach_turned, (refused_turned S b).0, own_turned, point_turned)
  act_turned S (CanRead b) new = grind (arith, (refused_turned S b).0)
  act_turned S (CanWrite b) new = grind (arith, (refused_turned S b).1)
  act_turned S call new = grind (arith, hindered_turned, after_turned)

-- ---- a recorded call, and a step, of a state without values

module _ (p : Location → Location) where
  told : (r : Option BorrowRefusal) → tells_of_borrow (refusal p r) ≡ tells_of_borrow r
  told r = grind arith

  names_kept : (r : StepReply) → names_of_reply (relocate_reply p r) ≡ names_of_reply r
  names_kept r = grind arith

  hindered_kept : (a : Action (Unit {0})) (x : Answer (Unit {0}))
      → is_hindered (relocate_action p a) (relocate_answer p x) ≡ is_hindered a x
  hindered_kept a x = grind arith

  module _ (P : Plain) where
    given_turned : (a : Action (Unit {0})) (answer : Answer (Unit {0}))
        → recorded_reply (turned p P) (relocate_action p a) (relocate_answer p answer)
        ≡ option_map (relocate_reply p) (recorded_reply P a answer)
    given_turned a answer = grind (arith, get_each)

    limited_turned : (out : Outcome (Unit {0}))
        → limit_tickets (turned p P) (turned_out p out) ≡ turned_out p (limit_tickets P out)
    limited_turned out = grind arith

    ready_kept : (c : StepCall) → is_ready (turned p P) (relocate_call p c) ≡ is_ready P c
    ready_kept (call.PointTo a b) = rw (act_turned p P (Point a b) no_names) (ap not (hindered_kept (Point a b) _))
    ready_kept (call.ReleaseOwner o) =
        rw (act_turned p P (ReleaseOwner (owner_of o)) no_names) (ap not (hindered_kept (ReleaseOwner (owner_of o)) _))
    ready_kept (call.Set b) = rw (reach_turned p P b, at_turned p P (reach P b)) (grind arith)
    ready_kept c = grind (arith, refused_turned p P, hindered_turned p P, told)

    free_kept : (s : ℕ) → is_free (turned p P) s ≡ is_free P s
    free_kept s = grind (arith, get_each)

    new_kept : (n : Name) → is_new (turned p P) n ≡ is_new P n
    new_kept n = λ i. not (set.contains P.given n)
        && ((nat_eq (map.len (map.retain_keys (slots_of P) (λ s. free_kept s i))) 0
        && (nat_eq n.slot (slots P) && nat_eq n.generation P.start))
        || (map.contains_key (slots_of P) n.slot
        && (free_kept n.slot i && nat_eq n.generation ((last_name P n.slot).generation + 1))))

    cells_kept : (k : ℕ) → (reader_cell (turned p P) k ≡ reader_cell P k) × (writer_cell (turned p P) k ≡ writer_cell P k)
    cells_kept k =
        let same : (n : Name) → (has_reader (content_at (turned p P) n) k ≡ has_reader (content_at P n) k)
        × (has_writer (content_at (turned p P) n) k ≡ has_writer (content_at P n) k) =
        λ n. rw (at_turned p P (Some n)) (known_turned p P k (content_at P n)) in (
          λ i. first_name (λ n. (same n).0 i) (keys_each (cell p) P.cells i),
          λ i. first_name (λ n. (same n).1 i) (keys_each (cell p) P.cells i),
        )

    action_turned : (c : StepCall)
        → action_of (turned p P) (relocate_call p c) ≡ option_map (relocate_action p) (action_of P c)
    action_turned (call.ReleaseRead k) = rw (cells_kept k).0 (grind arith)
    action_turned (call.ReleaseWrite k) = rw (cells_kept k).1 (grind arith)
    action_turned c = refl

  module _ (P : Plain) where
    are_new_kept : (a : Action (Unit {0})) (f : NewNames)
        → are_new (turned p P) (relocate_action p a) f ≡ are_new P a f
    are_new_kept (MakeShared o v l) f = let x : Cell (Unit {0}) = Shared (Here tt []) l in
        λ i. new_kept P f.first i && (ap (λ Q. is_new Q f.second) (sym (add_turned p P f.first x))
        ∙ new_kept (add_cell P f.first x) f.second) i
    are_new_kept a f = grind (arith, new_kept)

    gives_kept : (a : Action (Unit {0})) (r : StepReply)
        → gives_new (turned p P) (relocate_action p a) (relocate_reply p r) ≡ gives_new P a r
    gives_kept a r = grind (arith, are_new_kept)

    -- a recorded step of it leads to a state that is turned alike, if it leads anywhere
    module _ (keeps : KeepsTest p) where
      recorded_kept : (o : Option StepReply) (r : StepReply)
          → is_recorded (option_map (relocate_reply p) o) (relocate_reply p r) ≡ is_recorded o r
      recorded_kept o r = grind (arith, keeps)

      step_by_turned : (c : StepCall) (r : StepReply) (o : Option (Action (Unit {0})))
          → step_by (turned p P) (relocate_call p c) (relocate_reply p r) (option_map (relocate_action p) o)
          ≡ option_map (turned p) (step_by P c r o)
      step_by_turned c r None = refl
      step_by_turned c r (Some a) = let out = limit_tickets P (act P a (names_of_reply r)) in
          rw (
            names_kept r,
            act_turned p P a (names_of_reply r),
            limited_turned P (act P a (names_of_reply r)),
            ready_kept P c,
            gives_kept a r,
            given_turned out.1 a out.0,
            recorded_kept (recorded_reply out.1 a out.0) r,
          ) (grind arith)

      pub step_turned : (c : StepCall) (r : StepReply)
          → plain_step (turned p P) (relocate_call p c) (relocate_reply p r) ≡ option_map (turned p) (plain_step P c r)
      unfolding plain_step
      step_turned c r = rw (action_turned P c) (step_by_turned c r (action_of P c))

  -- the states that specs call alike
  pub alike_is : {S A : Plain} → IsStateRelocated p S A → S ≡ turned p A
  alike_is {A = A} h = h.is ∙ ap (λ C. record A { cells = C }) (each_is (cell p) A.cells h.cells h.turned.at)

  pub is_alike : {S A : Plain} → S ≡ turned p A → IsStateRelocated p S A
  is_alike {A = A} is = record {
    cells = each (cell p) A.cells;
    is = is;
    turned = record { at = get_each (cell p) A.cells };
  }

-- ==== what holds of each history that replays: its states are sound, and of the one store

-- the names of a recorded reply are those that the call takes
takes_named : (P Q : Plain) (a : Action (Unit {0})) (answer : Answer (Unit {0})) (r : StepReply)
    → gives_new P a r ≡ true → is_recorded (recorded_reply Q a answer) r ≡ true
    → Takes P a answer (names_of_reply r)
takes_named P Q a answer r new h = grind (arith, are_from)

-- a step that is lawful is taken
taken_by : (P Q : Plain) (c : StepCall) (r : StepReply) (o : Option (Action (Unit {0})))
    → action_of P c ≡ o → step_by P c r o ≡ Some Q → IsTaken P c r Q
taken_by P Q c r None asks e = absurd cc
taken_by P Q c r (Some a) asks e =
    let out : Outcome (Unit {0}) = limit_tickets P (act P a (names_of_reply r)) in
    let lawful = cond_gives (is_lawful P c a r (recorded_reply out.1 a out.0)) (Some out.1) Q e in
    let ready = and_parts (is_ready P c) _ lawful.0 in
    let gives = and_parts (gives_new P a r) _ ready.1 in
    let takes = takes_named P out.1 a out.0 r gives.0 gives.1 in
    let same : Q ≡ out.1 = cc in record {
      action = a;
      asked = asks;
      ready = ready.0;
      answer = out.0;
      met = inl (names_of_reply r, takes, λ i. (out.0, same i));
      replied = rw same gives.1;
      named = gives_from P a r gives.0;
    }

pub step_taken : (P Q : Plain) (c : StepCall) (r : StepReply)
    → plain_step P c r ≡ Some Q → IsTaken P c r Q
unfolding plain_step
step_taken P Q c r e = taken_by P Q c r (action_of P c) refl e

-- ---- a step within a history

module _ (x : Step) (after : List Step) (R : Plain) where
  -- the steps before it lead somewhere
  led_before : (before : List Step) (o : Option Plain)
      → replay_on (before ++ x ∷ after) o ≡ Some R
      → (S : Plain) × (replay_on before o ≡ Some S) × (replay_on (x ∷ after) (Some S) ≡ Some R)
  led_before [] None e = absurd cc
  led_before [] (Some S) e = (S, refl, e)
  led_before (y ∷ ys) None e = absurd cc
  led_before (y ∷ ys) (Some S) e = led_before ys (plain_step S y.call y.reply) e

-- and so does the step, if those after it go on
led_by : (xs : List Step) (o : Option Plain) (R : Plain) → replay_on xs o ≡ Some R
    → (Q : Plain) × (o ≡ Some Q) × (replay_on xs (Some Q) ≡ Some R)
led_by xs (Some Q) R e = (Q, refl, e)
led_by [] None R e = absurd cc
led_by (x ∷ xs) None R e = absurd cc

pub leads_over : (P R : Plain) (before : List Step) (x : Step) (after : List Step)
    → replay_from P (before ++ x ∷ after) ≡ Some R → LeadsOver P before x after R
leads_over P R before x after e =
    let here = led_before x after R before (Some P) e in
    let there = led_by after (plain_step here.0 x.call x.reply) R here.2 in
    (here.0, there.0, here.1, step_taken here.0 there.0 x.call x.reply there.1, there.2)

-- ---- what holds of all states of a history

-- a state is sound, of the store of this number, and has slots of this first generation
abbrev Good : ℕ → ℕ → Plain → Type 0
Good number start P = IsSound P × (P.number ≡ number) × (P.start ≡ start)

-- what the laws of the machine say of states without values
abbrev Keeps : (Plain → Plain → Type 0) → Type 0
Keeps Is = (P Q : Plain) (a : Action (Unit {0})) (answer : Answer (Unit {0}))
    → Meets P a answer Q → Is P Q

module _ (sound : Keeps (λ P Q. IsSound P → IsSound Q))
    (numbered : Keeps (λ P Q. Q.number ≡ P.number)) (started : Keeps (λ P Q. Q.start ≡ P.start)) where
  step_good : (number start : ℕ) (P Q : Plain) (c : StepCall) (r : StepReply)
      → Good number start P → plain_step P c r ≡ Some Q → Good number start Q
  step_good number start P Q c r good e =
      let took = step_taken P Q c r e in (
        sound P Q took.action took.answer took.met good.0,
        numbered P Q took.action took.answer took.met ∙ good.1,
        started P Q took.action took.answer took.met ∙ good.2,
      )

  replay_good : (number start : ℕ) (steps : List Step) (P Q : Plain) → Good number start P
      → replay_from P steps ≡ Some Q → Good number start Q
  replay_good number start [] P Q good e =
      let same : P ≡ Q = cc in subst (Good number start) same good
  replay_good number start (x ∷ xs) P Q good e =
      let it = led_by xs (plain_step P x.call x.reply) Q e in
      let still = step_good number start P it.0 x.call x.reply good it.1 in
      replay_good number start xs it.0 Q still it.2

  pub replay_kept : (P : Plain) (steps : List Step) (Q : Plain) → IsSound P
      → replay_from P steps ≡ Some Q → Good P.number P.start Q
  replay_kept P steps Q begins e = replay_good P.number P.start steps P Q (begins, refl, refl) e

-- another lawful step
pub replay_more : (steps : List Step) (o : Option Plain) (P Q : Plain) (x : Step)
    → replay_on steps o ≡ Some P → plain_step P x.call x.reply ≡ Some Q
    → replay_on (steps ++ x ∷ []) o ≡ Some Q
replay_more [] o P Q x e k = ap (replay_on (x ∷ [])) e ∙ k
replay_more (y ∷ ys) None P Q x e k = absurd cc
replay_more (y ∷ ys) (Some R) P Q x e k = replay_more ys (plain_step R y.call y.reply) P Q x e k

-- ==== histories that lead to a state by the letters of its locations

-- the test of two locations looks at their letters alone
tests_letters : KeepsTest lettered
tests_letters a b = refl

-- no steps lead from a state to itself
pub led_nowhere : {P Q : Plain} {steps : List Step} → P ≡ Q → steps ≡ [] → HistoryLeadsTo P steps Q
led_nowhere {P = P} same none = record {
  end = P;
  replays = ap (replay_from P) none;
  letters = turned lettered P;
  ended = is_alike lettered refl;
  same = is_alike lettered (ap (turned lettered) same);
}

-- the same by other names
pub led_as : {P R Q S : Plain} {steps others : List Step} → P ≡ R → steps ≡ others → Q ≡ S
    → HistoryLeadsTo P steps Q → HistoryLeadsTo R others S
led_as begins more ends led =
    subst (λ (p : Plain × List Step × Plain). HistoryLeadsTo p.0 p.1 p.2)
    (λ i. (begins i, more i, ends i)) led

-- what an audit returns of a state whose history replays
pub audited : {T V E : Type 0} (items : V → List Step) (number : ℕ) (s : SharedState T)
    (result : Result (BaseState × V) E) → Replays number s → IfOk result (λ r. r.0 ≡ s.base)
    → IfOk result (λ r. items r.1 ≡ s.history)
    → IfOk result (λ r. IsHistory number r.0 (items r.1))
audited items number s (Ok r) replays base steps = (
  ap (λ (b : BaseState). b.number) base ∙ replays.0,
  subst (λ b. IsSound (plain_of b)) (sym base) replays.1,
  (λ i. is_some (replay_from (plain_of (base i)) (steps i))) ∙ ap is_some replays.2.replays,
)
audited items number s (Err e) replays base steps = tt

-- what is mapped to something is there
mapped : {A B : Type 0} {f : A → B} (o : Option A) (y : B) → option_map f o ≡ Some y
    → (x : A) × (o ≡ Some x) × (f x ≡ y)
mapped o y is = grind arith

-- another lawful step, appended by its letters
pub led_on : (P S R : Plain) (before after : List Step) (y : Step) → HistoryLeadsTo P before S
    → AppendsStep before y after → plain_step S y.call y.reply ≡ Some R → HistoryLeadsTo P after R
led_on P S R before after y led more step =
    let x = more.last in
    let both : turned lettered S ≡ turned lettered led.end =
    sym (alike_is lettered led.same) ∙ alike_is lettered led.ended in
    let there : option_map (turned lettered) (plain_step led.end x.call x.reply) ≡ Some (turned lettered R) =
    sym (step_turned lettered led.end tests_letters x.call x.reply)
    ∙ ((λ i. plain_step (sym both i) (more.same i).call (more.same i).reply)
    ∙ (step_turned lettered S tests_letters y.call y.reply ∙ ap (option_map (turned lettered)) step)) in
    let on = mapped (plain_step led.end x.call x.reply) (turned lettered R) there in record {
      end = on.0;
      replays = ap (replay_from P) more.is
          ∙ replay_more before (Some P) led.end on.0 x led.replays on.1;
      letters = turned lettered R;
      ended = is_alike lettered (sym on.2);
      same = is_alike lettered refl;
    }

-- the end is of the same store, with the same first generation
module _ {P Q : Plain} {steps : List Step} (led : HistoryLeadsTo P steps Q) where
  pub same_number : Q.number ≡ led.end.number
  same_number = ap (λ (S : Plain). S.number) (sym led.same.is ∙ led.ended.is)

  pub same_start : Q.start ≡ led.end.start
  same_start = ap (λ (S : Plain). S.start) (sym led.same.is ∙ led.ended.is)

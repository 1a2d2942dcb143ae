-- What is known of nodes is what they mean, and what looks at them find.
pub mod Meanings
unfoldable pub use Meanings.*
use Rattle.reactive.specs.declared.fault.Fault.TheVariants as fault
use Rattle.reactive.specs.declared.look.Found.TheVariants as found
use Rattle.reactive.specs.Hearing.{WasTold}
use Rattle.std.specs.Borrow.{Bor}
use Rattle.std.proofs.lemmas.List.Elements.{Contains-append_left, Contains-append_right, Contains-append_cases}

-- ==== what is known of a table's nodes is what they mean

pub none_if : {X : Type 0} (o : Option X) → is_some o ≡ false → o ≡ None
none_if None none = refl
none_if (Some x) none = absurd (true≢false none)

-- a copy is there exactly if the value is
pub is_some_copied : {X : Type 0} (o : Option (Bor X)) → is_some (option_copied o) ≡ is_some o
is_some_copied None = refl
is_some_copied (Some x) = refl

pub live_node : {X : Type 0} (o : Option X) → o ≢ None → (x : X) × (o ≡ Some x)
live_node (Some x) live = (x, refl)
live_node None live = absurd (live refl)

module _ {T : Type 0} (shown : Key → Option T) where
  -- ---- reads that returned what their nodes have, with another

  pub asked_more : (keys : List Key) (k : Key) (v : T) → shown k ≡ Some v
      → asked_of shown (keys ++ k ∷ []) ≡ asked_of shown keys ++ record { key = k; value = v } ∷ []
  asked_more [] k v is = cc
  asked_more (j ∷ rest) k v is = grind (arith, asked_more rest k v is)

  pub given_more : (answers : List (Asked T)) (k : Key) (v : T) → shown k ≡ Some v
      → AreGiven shown answers → AreGiven shown (answers ++ record { key = k; value = v } ∷ [])
  given_more [] k v is all = (is, tt)
  given_more (a ∷ rest) k v is (h, all) = (h, given_more rest k v is all)

-- ---- what is known of slots is known of memos

pub knows_is : (known : ℕ → Option ℕ) (k : Key) → knows known k ≡ true → known k.id.slot ≡ Some k.id.generation
knows_is known k is = by_slot (known k.id.slot) is where
  by_slot : (o : Option ℕ) → holds o k.id.generation ≡ true → o ≡ Some k.id.generation
  by_slot None is = absurd (true≢false (sym is))
  by_slot (Some g) is = ap Some (eqb-true g k.id.generation is)

pub is_knows : (known : ℕ → Option ℕ) (k : Key) → known k.id.slot ≡ Some k.id.generation → knows known k ≡ true
is_knows known k is = rw is (eq-eqb k.id.generation k.id.generation refl)

pub unlike : (m n : ℕ) → m ≢ n → nat_eq m n ≡ false
unlike m n ne = ⊎_elim (λ same. absurd (ne same.1)) (λ other. other.0) (eqb_tells m n)

pub none_knows : (known : ℕ → Option ℕ) (k : Key) → known k.id.slot ≡ None → knows known k ≡ true → ⊥
none_knows known k none is = none-some _ (sym none ∙ knows_is known k is)

module _ {T R : Type 0} where
  -- ---- what is found to be known is known, and the other way round

  pub known_node : (sure : Bool) (n : Node T R) (v : T) → known_by sure (Some n) ≡ Some v → IsNodeKnown sure n v
  known_node true n v is = grind arith
  known_node false n v is = grind arith

  -- what is known though nothing is sure is known
  pub known_anyway : (sure : Bool) (n : Node T R) → is_some (known_by false (Some n)) ≡ true
      → is_some (known_by sure (Some n)) ≡ true
  known_anyway true n is = grind arith
  known_anyway false n is = is

  pub known_shows : (sure : Bool) (o : Option (Node T R)) (v : T) → known_by sure o ≡ Some v
      → (n : Node T R) × (o ≡ Some n) × IsNodeKnown sure n v
  known_shows sure None v is = cc
  known_shows sure (Some n) v is = (n, refl, known_node sure n v is)

  known_if : (sure : Bool) (n : Node T R) (v : T) → IsNodeKnown sure n v → known_by sure (Some n) ≡ Some v
  known_if true n v is = grind arith
  known_if false n v is = grind arith

  pub shown_known : (b : Book T R) (k : Key) (v : T) → Shows b k v → known_of b k ≡ Some v
  shown_known b k v (n, at, is) = rw at (known_if (knows b.known k) n v is)

  pub given_known : (b : Book T R) (answers : List (Asked T)) → AreGiven (known_of b) answers → AreKnown b answers
  given_known b [] all = tt
  given_known b (a ∷ rest) (h, all) =
      (known_shows (knows b.known a.key) (b.nodes a.key) a.value h, given_known b rest all)

module _ {T R : Type 0} {plan : R → Plan T} {G : Graph T} {now : ℕ} {b : Book T R}
    (s : IsSound plan G now b) where
  -- ---- what is known is what is meant

  pub plan_here : (k : Key) (n : Node T R) → b.nodes k ≡ Some n → G k ≡ plan_by plan n.rule n.value
  plan_here k n at = cc (s.same k)

  -- a key without a node has a plan that stops
  pub none_stops : (k : Key) → b.nodes k ≡ None → G k ≡ Stop
  none_stops k none = cc (s.same k)

  pub known_means : (k : Key) (v : T) → Shows b k v → Means G k v
  known_means k v (n, at, (has, known)) = ⊎_elim
      (λ none. let e : G k ≡ Give v = cc (plan_here k n at) in rw e (gives v))
      (λ is. let h = s.held k n at is v has in walked G (G k) h.answers (Give v) v h.leads h.mean (gives v))
      known

  pub all_mean : (answers : List (Asked T)) → AreKnown b answers → AllMean G answers
  all_mean [] all = tt
  all_mean (a ∷ rest) (h, all) = (known_means a.key a.value h, all_mean rest all)

-- if results are valid one by one in another table too, they are all valid there
pub stand_all : {T R : Type 0} (G : Graph T) (now since : ℕ) (old new : NodeTable T R)
    → ((a : Asked T) → (since ≡ now → Means G a.key a.value) → IsStillValid old since a → IsStillValid new since a)
    → (answers : List (Asked T)) → (since ≡ now → AllMean G answers) → AllStand old since answers
    → AllStand new since answers
stand_all G now since old new each [] mean all = tt
stand_all G now since old new each (a ∷ rest) mean (h, all) =
    (each a (λ e. (mean e).0) h, stand_all G now since old new each rest (λ e. (mean e).1) all)

-- ==== effects hear one after another

module _ {T : Type 0} (same : T → T → Bool) (G : Graph T) (kind : Key → Kind) where
  -- one more slot's effect gets what its node means
  pub hear_more : (n : ℕ) (old now : List (Option (Effect T))) (told one : List (Told T)) (e f : Option (Effect T))
      → AllHear same G kind n old now told → slice_get now n ≡ Some e
      → Listens same G kind e f one → AllHear same G kind (suc n) old (set now n f) (told ++ one)
  hear_more zero (o ∷ old) (m ∷ now) told one e f (same_now, none) is hears =
      let here : e ≡ o = cc in
      let rest : now ≡ old = cc in
      rw (← here) (one, [], rw none (sym (append-nil one)), hears, (rest, refl))
  hear_more zero old now told one e f (same_now, none) is hears = cc
  hear_more (suc n) (o ∷ old) (m ∷ now) told one e f (first, more, told_is, heard, rest) is hears = (
    first,
    more ++ one,
    rw told_is (append_assoc first more one),
    heard,
    hear_more n old now more one e f rest is hears,
  )
  hear_more (suc n) old now told one e f h is hears = absurd h

  -- there are as many slots as before, and at least those that are up to date
  pub all_length : (n : ℕ) (old now : List (Option (Effect T))) (told : List (Told T)) → AllHear same G kind n old now told
      → (length now ≡ length old) × (n ≤ length old)
  all_length zero old now told h = (ap length h.0, omega arith)
  all_length (suc n) (o ∷ old) (m ∷ now) told h = grind (arith, all_length n old now h.1 h.4)
  all_length (suc n) old now told h = absurd h

-- ---- what that says

module _ {T : Type 0} (same : T → T → Bool) (G : Graph T) (kind : Key → Kind) where
  is_mute : (k : Key) (f : Fault) → IsTrueOf G kind k f → IsMute G k
  is_mute k (fault.Gone j) h = h.0
  is_mute k (fault.Cycle j) h = h.0
  is_mute k (fault.NoValue j) h = h.0
  is_mute k (fault.NoSource j) h = absurd h
  is_mute k (fault.Store e) h = absurd h

  -- the last report of an effect that is up to date is right
  right_answer : (k : Key) (a : Result T Fault) → Says G kind k a → IsRight G k (Some a)
  right_answer k (Ok v) says = says
  right_answer k (Err f) says = is_mute k f says

  right_told : (k : Key) (told : Option (Result T Fault)) (a : Result T Fault) → WasTold told a → Says G kind k a
      → IsRight G k told
  right_told k told (Ok v) was says = rw was says
  right_told k told (Err f) was says = rw was.1 (is_mute k f says)

  heard_right : (e f : Effect T) (a : Result T Fault) (one : List (Told T)) → Says G kind e.key a → Hears same e a f one
      → IsRight G f.key f.told
  heard_right e f a [] says (stays, was) = rw stays (right_told e.key e.told a was says)
  heard_right e f a (t ∷ []) says (new, is, told) = rw is (right_answer e.key a says)
  heard_right e f a (t ∷ u ∷ rest) says h = absurd h

  listens_right : (o p : Option (Effect T)) (f : Effect T) (one : List (Told T)) → Listens same G kind o p one → p ≡ Some f
      → IsRight G f.key f.told
  listens_right None p f one h is = absurd (none-some f (sym h.0 ∙ is))
  listens_right (Some e) (Some p) f one (live, (a, says, hears)) is = rw (same_Some p f is) at (heard_right e p a one says hears)
  listens_right (Some e) None f one h is = absurd (none-some f is)

  pub all_right : (n s : ℕ) (f : Effect T) (old new : List (Option (Effect T))) (told : List (Told T)) → n ≡ length old
      → AllHear same G kind n old new told → effect_at new s ≡ Some f → IsRight G f.key f.told
  all_right zero s f old new told len (stays, none) at =
      let empty = nil_from_length old (sym len) in absurd (none-some f (ap (λ es. effect_at es s) (sym (stays ∙ empty)) ∙ at))
  all_right (suc n) zero f (o ∷ old) (p ∷ new) told len (one, rest, is, listens, h) at = listens_right o p f one listens at
  all_right (suc n) (suc s) f (o ∷ old) (p ∷ new) told len (one, rest, is, listens, h) at =
      all_right n s f old new rest (omega (arith, len)) h at
  all_right (suc n) s f old new told len h at = absurd h

  -- an effect without a report gets one
  told_first : (e f : Effect T) (a : Result T Fault) (one : List (Told T)) → e.told ≡ None → Hears same e a f one
      → Contains one (telling e a)
  told_first e f (Ok v) [] none (stays, was) = absurd (none-some (Ok v) (sym none ∙ was))
  told_first e f (Err g) [] none (stays, was) = absurd (none-some (Err was.0) (sym none ∙ was.1))
  told_first e f a (t ∷ []) none (new, is, told) = (0, omega arith, told)
  told_first e f a (t ∷ u ∷ rest) none h = absurd h

  listens_first : (o p : Option (Effect T)) (e : Effect T) (one : List (Told T)) → Listens same G kind o p one → o ≡ Some e
      → e.told ≡ None → kind e.key ≢ NoNode → (a : Result T Fault) × Says G kind e.key a × Contains one (telling e a)
  listens_first None p e one h is none live = absurd (none-some e is)
  listens_first (Some d) (Some p) e one (lives, (a, says, hears)) is none live =
      let it = same_Some d e is in (
        a,
        subst (λ x. Says G kind x.key a) it says,
        subst (λ x. Contains one (telling x a)) it (told_first d p a one (ap (λ x. x.told) it ∙ none) hears),
      )
  listens_first (Some d) None e one h is none live = absurd (live (ap (λ x. kind x.key) (sym (same_Some d e is)) ∙ h.0))

  pub first_told : (n s : ℕ) (e : Effect T) (old new : List (Option (Effect T))) (told : List (Told T)) → n ≡ length old
      → AllHear same G kind n old new told → effect_at old s ≡ Some e → e.told ≡ None → kind e.key ≢ NoNode
      → (a : Result T Fault) × Says G kind e.key a × Contains told (telling e a)
  first_told zero s e old new told len h at none live =
      let empty = nil_from_length old (sym len) in absurd (none-some e (ap (λ es. effect_at es s) (sym empty) ∙ at))
  first_told (suc n) zero e (o ∷ old) (p ∷ new) told len (one, rest, is, listens, h) at none live =
      let first = listens_first o p e one listens at none live in
      (first.0, first.1, rw is (Contains-append_left one rest (telling e first.0) first.2))
  first_told (suc n) (suc s) e (o ∷ old) (p ∷ new) told len (one, rest, is, listens, h) at none live =
      let later = first_told n s e old new rest (omega (arith, len)) h at none live in
      (later.0, later.1, rw is (Contains-append_right one rest (telling e later.0) later.2))
  first_told (suc n) s e old new told len h at none live = absurd h

  -- a report is of an effect
  in_none : (t : Told T) → Contains [] t → ⊥
  in_none t (k, lt, is) = absurd (omega (arith, lt))

  in_one : (t u : Told T) → Contains (t ∷ []) u → t ≡ u
  in_one t u (zero, lt, is) = is
  in_one t u (suc k, lt, is) = absurd (omega (arith, lt))

  hears_only : (e f : Effect T) (a : Result T Fault) (one : List (Told T)) (t : Told T) → Hears same e a f one → Contains one t
      → t ≡ telling e t.answer
  hears_only e f a [] t h there = absurd (in_none t there)
  hears_only e f a (u ∷ []) t (new, is, told) there =
      let it = in_one u t there in sym it ∙ (told ∙ ap (telling e) (sym (ap (λ x. x.answer) told) ∙ ap (λ x. x.answer) it))
  hears_only e f a (u ∷ v ∷ rest) t h there = absurd h

  listens_only : (o p : Option (Effect T)) (one : List (Told T)) (t : Told T) → Listens same G kind o p one → Contains one t
      → (e : Effect T) × (o ≡ Some e) × (t ≡ telling e t.answer)
  listens_only None p one t h there = absurd (in_none t (subst (λ xs. Contains xs t) h.1 there))
  listens_only (Some e) (Some p) one t (live, (a, says, hears)) there = (e, refl, hears_only e p a one t hears there)
  listens_only (Some e) None one t h there =
      let it = in_one (telling e (Err (fault.Gone e.key))) t (subst (λ xs. Contains xs t) h.1 there) in
      (e, refl, sym it ∙ ap (telling e) (ap (λ x. x.answer) it))

  pub only_told : (n : ℕ) (t : Told T) (old new : List (Option (Effect T))) (told : List (Told T))
      → AllHear same G kind n old new told → Contains told t
      → (s : ℕ) × (e : Effect T) × (effect_at old s ≡ Some e) × (t ≡ telling e t.answer)
  only_told zero t old new told (stays, none) there = absurd (in_none t (subst (λ xs. Contains xs t) none there))
  only_told (suc n) t (o ∷ old) (p ∷ new) told (one, rest, is, listens, h) there = ⊎_elim
      (λ first. let it = listens_only o p one t listens first in (0, it.0, it.1, it.2))
      (λ later. let it = only_told n t old new rest h later in (suc it.0, it.1, it.2, it.3))
      (Contains-append_cases one rest t (subst (λ xs. Contains xs t) is there))
  only_told (suc n) t old new told h there = absurd h

-- ==== the nodes of a store are found by their keys, and change as the machine says

-- ---- the box that is seen_found by an id

module _ {N : Type 0} (S : State N) where
  seen_found : (b : GenerationalPointer) (v : N) → value_in S b ≡ Some v → is_some (box_with S b.id) ≡ true
  seen_found b v is = grind (arith, seen_reached, reaches, led_box)

  pub not_found : (b : GenerationalPointer) → None ≡ box_with S b.id → value_in S b ≡ None
  not_found b none = grind (arith, seen_found)

  pub found_id : (id : GenerationalBoxId) (b : GenerationalPointer) → Some b ≡ box_with S id → b.id ≡ id
  found_id id b seen_found = grind arith

pub same_key : (j k : Key) → j.id ≡ k.id → j ≡ k
same_key j k e = λ i. record { id = e i }

module _ {T R : Type 0} where
  -- an addition puts a node where none was
  module _ {S Q : State (Node T R)} (s : IsSoundStore S) (n : Node T R) (l : Location)
      (b : GenerationalBox (Node T R)) (k : Key) (is : (pointer_of b).id ≡ k.id)
      (m : Meets S (Make None n l) (Made (pointer_of b)) Q) where
    pub made_none : nodes_in S k ≡ None
    made_none = grind (arith, made_apart None n l (Ok b) s m (key_pointer k))

    pub made_puts : IsPut (nodes_in S) k n (nodes_in Q)
    made_puts = record {
      here = same_id_sees Q (key_pointer k) (pointer_of b) (sym is) ∙ made None n l (Ok b) m;
      others = λ j ne. others_left _ _ m (pointer_of b) (key_pointer j) (made_new _ _ _ _ m).0
          (same_value _ _ _ _ s m (key_pointer j) tt) (λ e. ne (same_key j k (sym e ∙ is)));
    }

  -- a box may be written exactly if a look at it finds something
  pub seen_writes : {S : State (Node T R)} → IsSoundStore S → IsSimple S → (b : GenerationalPointer) → {o : Option (Node T R)}
      → o ≡ value_in S b → is_some o ≡ can_write S b
  seen_writes {S} s simple b seen = ap is_some seen ∙ sym (quiet_sees S simple.unborrowed b s)

  -- the index where a key's box was found
  module _ {S : State (Node T R)} (s : IsSoundStore S) (simple : IsSimple S) (k : Key) (b : GenerationalPointer)
      (seen_found : Some b ≡ box_with S k.id) {can : Bool} (writes : can ≡ can_write S b) where
    is : b.id ≡ k.id
    is = found_id S k.id b seen_found

    pub stuck_none : can ≡ false → nodes_in S k ≡ None
    stuck_none stuck = same_id_sees S (key_pointer k) b (sym is) ∙ stuck_unseen b s simple writes stuck

    module _ (free : can ≡ true) where
      own : b.id.store ≡ S.number
      own = seen_store S b s (free_seen b s simple writes free)

      -- a set replaces a node
      pub set_had : {Q : State (Node T R)} (new old : Node T R) → Meets S (SetValue b new) (Old old) Q
          → nodes_in S k ≡ Some old
      set_had new old m = same_id_sees S (key_pointer k) b (sym is) ∙ (sets b new old m).0

      pub set_puts : {Q : State (Node T R)} (new old : Node T R) → Meets S (SetValue b new) (Old old) Q
          → IsPut (nodes_in S) k new (nodes_in Q)
      set_puts new old m = record {
        here = (sets b new old m).2 (key_pointer k) (same_id_reach S (key_pointer k) b (sym is));
        others = λ j ne. let to = seen_reached S b old (sets b new old m).0 in
            others_left _ _ m b (key_pointer j) own (λ apart. same_value _ _ _ _ s m (key_pointer j)
            (λ e. apart (reach_apart S simple.plain b (key_pointer j) to.0 to.1 (sym e))) tt)
            (λ e. ne (same_key j k (sym e ∙ is)));
      }

      -- there is a node
      pub written_lives : nodes_in S k ≢ None
      written_lives none = true≢false (sym (free_seen b s simple writes free)
          ∙ ap is_some (sym (same_id_sees S (key_pointer k) b (sym is)) ∙ none))

      -- a removal leaves no node
      pub end_none : {Q : State (Node T R)} → Meets S (End b) Done Q → nodes_in Q k ≡ None
      end_none {Q} m = same_id_sees Q (key_pointer k) b (sym is) ∙ unseen Q b (ends b {U = Unit {0}} (Ok tt) m)

      pub end_others : {Q : State (Node T R)} → Meets S (End b) Done Q → (j : Key) → j ≢ k
          → nodes_in Q j ≡ nodes_in S j
      end_others m j ne = others_left _ _ m b (key_pointer j) own
          (λ apart. same_value _ _ _ _ s m (key_pointer j) apart tt) (λ e. ne (same_key j k (sym e ∙ is)))

-- ==== what holds of a table when some of its nodes were removed

among_last : (xs : List Key) (x k : Key) → IsKeyAmong k (xs ++ x ∷ []) → IsKeyAmong k xs ⊎ (x ≡ k)
among_last [] x k e = grind arith
among_last (y ∷ xs) x k e = grind (arith, among_last xs x k)

pub among_first : (xs : List Key) (x k : Key) → IsKeyAmong k xs ⊎ (x ≡ k) → IsKeyAmong k (xs ++ x ∷ [])
among_first [] x k e = grind arith
among_first (y ∷ xs) x k e = grind (arith, among_first xs x k)

module _ {T R : Type 0} where
  lost_last : (old mid new : NodeTable T R) (xs : List Key) (x : Key) → HasLostKeys old xs mid
      → new x ≡ None → ((j : Key) → j ≢ x → new j ≡ mid j) → HasLostKeys old (xs ++ x ∷ []) new
  lost_last old mid new xs x lost none same = grind (arith, key_cases, among_last, among_first)

  pub lost_more : (old mid new : NodeTable T R) (keys : List Key) (i : ℕ) (d : Key) → i < length keys
      → HasLostKeys old (take i keys) mid → new (get_or keys i d) ≡ None
      → ((j : Key) → j ≢ get_or keys i d → new j ≡ mid j) → HasLostKeys old (take (i + 1) keys) new
  lost_more old mid new keys i d lt lost none same =
      rw (take_more keys i d lt) (lost_last old mid new (take i keys) (get_or keys i d) lost none same)

-- ==== what runs and cached results say of a node

module _ {T : Type 0} where
  -- the result of the read at an index
  answer_at : (answers : List (Asked T)) (place : ℕ) (d : Key) → place < length (list_map (λ a. a.key) answers)
      → (a : Asked T) × (slice_get answers place ≡ Some a)
      × (a.key ≡ slice_index_or (list_map (λ a. a.key) answers) place d)
  answer_at [] place d lt = absurd (omega (arith, lt))
  answer_at (b ∷ rest) zero d lt = (b, refl, refl)
  answer_at (b ∷ rest) (suc place) d lt = answer_at rest place d (omega (arith, lt))

module _ {T R : Type 0} (b : Book T R) where
  pub asked_at : (answers : List (Asked T)) (reads : List Key) (place : ℕ) (d : Key)
      → list_map (λ a. a.key) answers ≡ reads → place < length reads
      → AreKnown b (take place answers) → IsAsked b answers (slice_index_or reads place d) place
  asked_at answers reads place d asked lt known =
      let a = answer_at answers place d (rw asked lt) in
      record { answer = a.0; there = a.1; of = rw asked at a.2; before = known }

  stand_at : (since : ℕ) (answers : List (Asked T)) (place : ℕ) (a : Asked T) → AllStand b.nodes since answers
      → slice_get answers place ≡ Some a → IsStillValid b.nodes since a
  stand_at since [] place a all is = absurd (none-some a is)
  stand_at since (b ∷ rest) zero a (h, all) is = rw (same_Some b a is) at h
  stand_at since (b ∷ rest) (suc place) a (h, all) is = stand_at since rest place a all is

  known_next : (answers : List (Asked T)) (place : ℕ) (a : Asked T) → slice_get answers place ≡ Some a
      → AreKnown b (take place answers) → Shows b a.key a.value
      → AreKnown b (take (suc place) answers)
  known_next [] place a is all h = absurd (none-some a is)
  known_next (b ∷ rest) zero a is all h = (rw (same_Some b a is) h, tt)
  known_next (b ∷ rest) (suc place) a is (g, all) h = (g, known_next rest place a is all h)

  -- a valid result, of a node that is known and hasn't changed, is right
  pub known_more_at : (since : ℕ) (answers : List (Asked T)) (reads : List Key) (place : ℕ) (d : Key) (n : Node T R)
      → list_map (λ a. a.key) answers ≡ reads → place < length reads → AllStand b.nodes since answers
      → AreKnown b (take place answers) → b.nodes (slice_index_or reads place d) ≡ Some n
      → is_some (known_by (knows b.known (slice_index_or reads place d)) (Some n)) ≡ true → n.changed ≤ since
      → AreKnown b (take (place + 1) answers)
  known_more_at since answers reads place d n asked lt stand known at hit low =
      let a = asked_at answers reads place d asked lt known in
      let there = ap b.nodes a.of ∙ at in
      let v = some_live (known_by (knows b.known (slice_index_or reads place d)) (Some n)) hit in
      let value = stand_at since answers place a.answer stand a.there n there low in
      let is_known = known_node (knows b.known (slice_index_or reads place d)) n v.0 v.1 in
      let sure = subst (λ k. (n.rule ≡ None) ⊎ (knows b.known k ≡ true)) (sym a.of) is_known.1 in
      let next : suc place ≡ place + 1 = omega arith in
      rw next at (known_next answers place a.answer a.there known (n, there, (value, sure)))

module _ {T R : Type 0} {plan : R → Plan T} {G : Graph T} {now : ℕ} {b : Book T R}
    (s : IsSound plan G now b) (k : Key) where
  -- a node that needs a removed one means nothing
  pub needs_gone : (j : Key) → Needs G k j → b.nodes j ≡ None → IsMute G k
  needs_gone j n none = needs_mute G k j n (λ v d. stopped G v (rw (none_stops s j none) at d))

  module _ (n : Node T R) (at : b.nodes k ≡ Some n) where
    pub known_here : is_some (known_by (knows b.known k) (Some n)) ≡ true → (v : T) × Shows b k v
    known_here hit =
        let v = some_live (known_by (knows b.known k) (Some n)) hit in
        (v.0, known_shows (knows b.known k) (b.nodes k) v.0 (ap (known_by (knows b.known k)) at ∙ v.1))

    -- a node without a rule and a value yields none
    stops : (o : Option T) → is_some o ≡ false → plan_by plan None o ≡ Stop
    stops None none = refl
    stops (Some v) none = absurd (true≢false none)

    pub no_rule : (sure : Bool) → n.rule ≡ None → is_some (known_by sure (Some n)) ≡ false → GivesNone G k
    no_rule sure none miss =
        let empty : is_some n.value ≡ false = rw none at miss in
        ([], tt, plan_here s k n at ∙ (ap (λ r. plan_by plan r n.value) none ∙ stops n.value empty))

    -- ---- what a rule's run comes to

    module _ (rule : R) (has : n.rule ≡ Some rule) (answers : List (Asked T))
        (known : AreKnown b answers) where
      plan_is : G k ≡ plan rule
      plan_is = cc (plan_here s k n at)

      pub rerun_needs : (j : Key) (result : Option T) → Ran (plan rule) answers (Some j) result → Needs G k j
      rerun_needs j result ran =
          let to = ran_to (plan rule) answers (Some j) result ran in
          (answers, to.2.0, all_mean s answers known, rw (plan_is, ← to.2.1) to.1)

      pub rerun_none : Ran (plan rule) answers None None → GivesNone G k
      rerun_none ran =
          let to = ran_to (plan rule) answers None None ran in
          (answers, all_mean s answers known, rw (plan_is, ← to.2) to.1)

      pub rerun_leads : (v : T) (reads : List Key) → list_map (λ a. a.key) answers ≡ reads
          → Ran (plan rule) answers None (Some v) → PlanLeadsTo G now b k n v reads
      rerun_leads v reads asked ran = grind (arith, ran_to, plan_is)

      -- a value that a run came to was found
      pub found_by : (v : T) (asked kept : List Key) → list_map (λ a. a.key) answers ≡ asked → kept ≡ vec_items n.reads
          → Ran (plan rule) answers None (Some v) → (is_kept : Bool) → (is_kept ≡ true → is_some n.value ≡ true)
          → (f : Found T) → IsFoundBy v asked kept is_kept f → RunFinds G now b k f
      found_by v asked kept is its ran is_kept has_value (found.Again w) (same, again, kept_is) =
          rw same (
            n,
            at,
            (λ none. true≢false (sym (has_value kept_is) ∙ ap is_some none)),
            rerun_leads v (vec_items n.reads) (is ∙ (again ∙ its)) ran,
          )
      found_by v asked kept is its ran is_kept has_value (found.New w reads) (same, these) =
          rw same (n, at, rerun_leads v (vec_items reads) (is ∙ sym these) ran)
      found_by v asked kept is its ran is_kept has_value (found.Needs j) h = absurd h
      found_by v asked kept is its ran is_kept has_value (found.Gone j) h = absurd h
      found_by v asked kept is its ran is_kept has_value found.NoValue h = absurd h
      found_by v asked kept is its ran is_kept has_value found.Full h = tt

    -- ---- what the cached results lead to

    -- a check that goes on finds the walk, unless the node is known
    pub kept_walk : (place : ℕ) → GoesOn G now b k (Some place)
        → is_some (known_by (knows b.known k) (Some n)) ≡ false
        → is_some n.value ≡ true → (v : T) × (n.value ≡ Some v)
        × ((w : IsWalk G now b.nodes k n v) × AreKnown b (take place w.answers))
    kept_walk place goes miss some = grind (arith, some_live, shown_known)

    module _ (v : T) (value : n.value ≡ Some v) (w : IsWalk G now b.nodes k n v) where
      pub kept_leads : (rule : R) → n.rule ≡ Some rule → AreKnown b w.answers
          → PlanLeadsTo G now b k n v (vec_items n.reads)
      kept_leads rule has known = let asked = w.asked in let leads = w.leads in search

      -- the node of a cached read is needed, if the results before it are what their nodes mean
      pub asked_needs : (j : Key) (place : ℕ) → IsAsked b w.answers j place → Needs G k j
      asked_needs j place a =
          let to = asked_to (G k) w.answers place a.answer (Give v) w.leads a.there in (
            take place w.answers,
            to.0,
            all_mean s (take place w.answers) a.before,
            subst (λ x. Follows (G k) (take place w.answers) (Ask x to.0)) a.of to.1,
          )

      pub asked_goes : (j : Key) (place : ℕ) → IsAsked b w.answers j place
          → GoesOn G now b k (Some place)
      asked_goes j place a = inr (λ m there u is.
          let same = same_Some n m (sym at ∙ there) in
          let one : v ≡ u = cc in rw (← same, ← one) (w, a.before))

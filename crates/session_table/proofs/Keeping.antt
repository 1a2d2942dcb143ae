-- What a table of sessions keeps.
pub mod Common
use Rattle.std.proofs.lemmas.List.Folds.{list_any_none}
use Rattle.std.specs.FinMap as map
use Rattle.std.specs.FinSet as set
unfoldable pub use Common.*

-- ==== a table's store and its rows after each call

-- names are compared for equality
name_equal : IsEquivalence is_name
unfolding is_name
name_equal = eq_by_cmp_equiv name_total

-- no name is twice in an empty list
none_twice : IsDistinct is_name []
unfolding IsDistinct
none_twice = tt

-- no rows
abbrev pub no_rows : {I : Type 0} → I → Option RowNames
no_rows _ = None

module _ {I T : Type 0} (eq : I → I → Bool) where
  pub fresh_kept : (number start next : ℕ) → AreSessionsKept (fresh {T = T} number start next) eq no_rows
  fresh_kept number start next =
      let simple = fresh_simple {T = T} number start next in
      let sees = fresh_sees {T = T} number start next in
      grind (arith, simple, sees, map.get-empty {X = Ownership} nat_cmp)

  -- without rows no box shows a value
  pub empty_shows : (S : State T) → AreSessionsKept S eq no_rows → (b : GenerationalPointer) → value_in S b ≡ None
  empty_shows S k b = by_option (value_in S b) (λ none. none) (λ v is. let was = k.kept b (ap is_some is) in cc)

-- rows that are the same
pub same_kept : {I T : Type 0} {eq : I → I → Bool} {S : State T} {rows after : I → Option RowNames}
    → AreSessionsKept S eq rows → ((i : I) → after i ≡ rows i) → AreSessionsKept S eq after
same_kept {I} {T} {eq} {S} k same = subst (AreSessionsKept S eq) (λ j i. sym (same i) j) k

-- what a store has for a row
pub record IsRow {T : Type 0} (S : State T) (h : RowNames) : Type 0 where
  pub once : IsDistinct is_name h.names
  pub own : AllByRecursion (λ n. n ≡ S.number) h.stores
  pub live : (b : GenerationalPointer) → among h.names (name_of b) ≡ true → b.id.store ≡ S.number → ShowsSomething S b

-- the names of a row, if there is one
abbrev pub listed_in : Option RowNames → List Name
listed_in None = []
listed_in (Some h) = h.names

-- a name that isn't among those of a list except for one is that one
pub grown : (names : List Name) (new n : Name) → among (names ++ new ∷ []) n ≡ (among names n || is_name n new)
grown names new n = grind (arith, list_any-append)

module _ {I T : Type 0} {eq : I → I → Bool} (S R : State T) {rows : I → Option RowNames} (k : AreSessionsKept S eq rows) where
  -- the row of an id changes, is added or is removed, and every other entry is unchanged
  module _ (simple : IsSimple R) (number : R.number ≡ S.number) (owners : (o : OwnerName) → ownership R o ≡ ownership S o)
      (laws : IsEquivalence eq) {after : I → Option RowNames} (at : I) (was now : Option RowNames)
      (there : (i : I) → eq at i ≡ true → rows i ≡ was)
      (update : (i : I) → after i ≡ cond (eq at i) now (rows i))
      (row : (h : RowNames) → now ≡ Some h → IsRow R h)
      (left : (i : I) (h : RowNames) → eq at i ≡ false → rows i ≡ Some h → (b : GenerationalPointer)
      → among h.names (name_of b) ≡ true → ShowsSomething S b → ShowsSomething R b)
      (fresh_names : (i : I) (h : RowNames) → eq at i ≡ false → rows i ≡ Some h → (n : Name)
      → among (listed_in now) n ≡ true → among h.names n ≡ true → ⊥)
      (reached : (b : GenerationalPointer) → ShowsSomething R b → (among (listed_in now) (name_of b) ≡ true)
      ⊎ ((among (listed_in was) (name_of b) ≡ false) × ShowsSomething S b)) where
    split : (i : I) (h : RowNames) → after i ≡ Some h
        → ((eq at i ≡ true) × (now ≡ Some h)) ⊎ ((eq at i ≡ false) × (rows i ≡ Some h))
    split i h is = ⊎_elim (λ t. inl (t, sym (ap (λ b. cond b now (rows i)) t) ∙ (sym (update i) ∙ is)))
        (λ f. inr (f, sym (ap (λ b. cond b now (rows i)) f) ∙ (sym (update i) ∙ is))) (cases_Bool (eq at i))

    here : (h : RowNames) → now ≡ Some h → after at ≡ Some h
    here h is = update at ∙ (ap (λ b. cond b now (rows at)) (laws.refl at) ∙ is)

    stays : (i : I) (h : RowNames) → eq at i ≡ false → rows i ≡ Some h → after i ≡ Some h
    stays i h f is = update i ∙ (ap (λ b. cond b now (rows i)) f ∙ is)

    old_row : (i : I) (h : RowNames) → eq at i ≡ false → rows i ≡ Some h → IsRow R h
    old_row i h f is = record {
      once = k.once i h is;
      own = subst (λ m. AllByRecursion (λ n. n ≡ m) h.stores) (sym number) (k.own i h is);
      live = λ b listed own. left i h f is b listed (k.live i h is b listed (own ∙ number));
    }

    each_row : (i : I) (h : RowNames) → after i ≡ Some h → IsRow R h
    each_row i h is = ⊎_elim (λ new. row h new.1) (λ old. old_row i h old.0 old.1) (split i h is)

    pub changed_kept : AreSessionsKept R eq after
    changed_kept = record {
      simple = simple;
      unowned = λ o. owners o ∙ k.unowned o;
      apart = λ i j h g is on n x y. ⊎_elim
          (λ new. ⊎_elim (λ too. sym (laws.congr at i j new.0) ∙ too.0)
          (λ old. absurd (fresh_names j g old.0 old.1 n (ap (λ o. among (listed_in o) n) new.1 ∙ x) y)) (split j g on))
          (λ old. ⊎_elim (λ new. absurd (fresh_names i h old.0 old.1 n (ap (λ o. among (listed_in o) n) new.1 ∙ y) x))
          (λ too. k.apart i j h g old.1 too.1 n x y) (split j g on)) (split i h is);
      once = λ i h is. (each_row i h is).once;
      own = λ i h is. (each_row i h is).own;
      kept = λ b shows. ⊎_elim
          (λ listed. some_row b now refl listed)
          (λ old. let was_row = k.kept b old.1 in
          ⊎_elim (λ t. absurd (true≢false (sym was_row.3
          ∙ (ap (λ o. among (listed_in o) (name_of b)) (sym was_row.2 ∙ there was_row.0 t) ∙ old.0))))
          (λ f. (was_row.0, was_row.1, stays was_row.0 was_row.1 f was_row.2, was_row.3)) (cases_Bool (eq at was_row.0)))
          (reached b shows);
      live = λ i h is. (each_row i h is).live;
    }
      where
        some_row : (b : GenerationalPointer) (o : Option RowNames) → now ≡ o → among (listed_in o) (name_of b) ≡ true
            → (i : I) × (h : RowNames) × (after i ≡ Some h) × (among h.names (name_of b) ≡ true)
        some_row b None is listed = absurd (true≢false (sym listed))
        some_row b (Some h) is listed = (at, h, here h is, listed)

  -- ---- a value that is set

  pub set_kept : IsSound S → (b : GenerationalPointer) (v old : T) → Meets S (SetValue b v) (Old old) R → AreSessionsKept R eq rows
  set_kept s a v old m =
      let sees = set_seen s k.simple.unborrowed a v old m in
      let number = meets_number S R (SetValue a v) (Old old) m in
      record {
        simple = simple_still s k.simple (SetValue a v) (Old old) m tt tt;
        unowned = λ o. keeps_record (SetValue a v) (Old old) m o tt tt ∙ k.unowned o;
        apart = k.apart;
        once = k.once;
        own = λ i h is. subst (λ m. AllByRecursion (λ n. n ≡ m) h.stores) (sym number) (k.own i h is);
        kept = λ b shows. k.kept b (sym (sees b) ∙ shows);
        live = λ i h is b listed own. sees b ∙ k.live i h is b listed (own ∙ number);
      }

  -- ---- a session that has a row

  module _ (laws : IsEquivalence eq) (at : I) (x : RowNames)
      (there : (i : I) → eq at i ≡ true → rows i ≡ Some x) where
    has : rows at ≡ Some x
    has = there at (laws.refl at)

    -- another lists none of what this one lists
    other_names : (i : I) (h : RowNames) → eq at i ≡ false → rows i ≡ Some h → (n : Name)
        → among x.names n ≡ true → among h.names n ≡ true → ⊥
    other_names i h f is n mine theirs = true≢false (sym (k.apart at i x h has is n mine theirs) ∙ f)

    -- ---- a value that is inserted

    module _ (s : IsSound S) {after : I → Option RowNames} (y : RowNames)
        (update : (i : I) → after i ≡ cond (eq at i) (Some y) (rows i))
        (v : T) (l : Location) (e : Entry T)
        (names : y.names ≡ x.names ++ name_of (pointer_in e) ∷ [])
        (stores : y.stores ≡ x.stores ++ (pointer_in e).id.store ∷ [])
        (put : HasPut S v l e R) where
      abbrev new : Name
      new = name_of (pointer_in e)

      number : R.number ≡ S.number
      number = meets_number S R (Make None v l) (Made put.0) put.1

      own_number : (pointer_in e).id.store ≡ S.number
      own_number = ap (λ i. i.store) put.2 ∙ (made_new S R (Make None v l) put.0 put.1).0

      same_name : name_of (pointer_in e) ≡ name_of put.0
      same_name = ap name_in put.2

      -- a box that shows something has another name
      not_new : (b : GenerationalPointer) → ShowsSomething S b → name_of b ≢ new
      not_new b shows is = true≢false (sym (s.given (name_of b) (seen_cell S b shows))
          ∙ (ap (λ n. set.contains S.given n) (is ∙ same_name) ∙ (made_new S R (Make None v l) put.0 put.1).1))

      put_left : (b : GenerationalPointer) → name_of b ≢ new → value_in R b ≡ value_in S b
      put_left b ne = same_value S R (Make None v l) (Made put.0) s put.1 b tt (λ is. ne (sym is ∙ sym same_name))

      -- a name that a row lists is that of a box that shows something
      listed_old : (i : I) (h : RowNames) → rows i ≡ Some h → (n : Name) → among h.names n ≡ true → n ≢ new
      listed_old i h is n listed same =
          let b : GenerationalPointer = record {
            id = record { store = S.number; slot = n.slot; generation = n.generation };
            created_at = nowhere;
          } in
          not_new b (k.live i h is b listed refl) same

      new_shows : (b : GenerationalPointer) → name_of b ≡ new → b.id.store ≡ R.number → ShowsSomething R b
      new_shows b name own = ap is_some (same_id_sees R b put.0 (grind (arith, own, number, own_number, put.2))
          ∙ (meets_tells S R (Make None v l) (Made put.0) put.1).1)

      pub put_kept : AreSessionsKept R eq after
      put_kept = changed_kept (made_simple s k.simple v l put.0 put.1) number
          (λ o. keeps_record (Make None v l) (Made put.0) put.1 o tt tt) laws at (Some x) (Some y) there update
          (λ h is. subst (IsRow R) (same_Some y h is) (record {
            once = rw names (IsDistinct-push name_equal x.names new (k.once at x has)
                (false_from_ne_true _ (λ listed. listed_old at x has new listed refl)));
            own =
                let every = All-push (λ n. n ≡ S.number) x.stores _ (All-from_recursion (λ n. n ≡ S.number) _ (k.own at x has))
                own_number in
                rw (stores, number) (recursion_from_All (λ n. n ≡ S.number) _ every);
            live = λ b listed own. ⊎_elim
                (λ old. ap is_some (put_left b (listed_old at x has (name_of b) old))
                ∙ k.live at x has b old (own ∙ number))
                (λ one. new_shows b one own) (in_grown b listed);
          }))
          (λ i h f is b listed shows. ap is_some (put_left b (not_new b shows)) ∙ shows)
          (λ i h f is n mine theirs. ⊎_elim (λ old. other_names i h f is n old theirs)
          (λ one. listed_old i h is n theirs one) (named n mine))
          (λ b shows. ⊎_elim (λ one. inl (rw names (new_listed b one)))
          (λ ne. ⊎_elim (λ mine. inl (rw names (old_listed b mine)))
          (λ none. inr (none, sym (ap is_some (put_left b ne)) ∙ shows)) (cases_Bool (among x.names (name_of b))))
          (name_cases (name_of b) new))
        where
          named : (n : Name) → among y.names n ≡ true → (among x.names n ≡ true) ⊎ (n ≡ new)
          named n listed = grind (arith, names, grown x.names new n, name_same n new)

          in_grown : (b : GenerationalPointer) → among y.names (name_of b) ≡ true
              → (among x.names (name_of b) ≡ true) ⊎ (name_of b ≡ new)
          in_grown b = named (name_of b)

          new_listed : (b : GenerationalPointer) → name_of b ≡ new → among (x.names ++ new ∷ []) (name_of b) ≡ true
          new_listed b one = grind (arith, grown x.names new (name_of b), name_here new)

          old_listed : (b : GenerationalPointer) → among x.names (name_of b) ≡ true
              → among (x.names ++ new ∷ []) (name_of b) ≡ true
          old_listed b mine = grind (arith, grown x.names new (name_of b))

    -- ---- a session that ends

    module _ {after : I → Option RowNames} (update : (i : I) → after i ≡ cond (eq at i) None (rows i))
        (lost : HasLost S x.names R) where
      pub ended_kept : AreSessionsKept R eq after
      ended_kept = changed_kept lost.simple lost.number lost.owners laws at (Some x) None there update
          (λ h is. absurd (none-some h is))
          (λ i h f is b listed shows. ap is_some (lost.others b
          (false_from_ne_true _ (λ mine. other_names i h f is (name_of b) mine listed))) ∙ shows)
          (λ i h f is n mine theirs. true≢false (sym mine))
          (λ b shows. inr (⊎_elim
          (λ mine. absurd (true≢false (sym shows ∙ ap is_some (lost.ended b mine))))
          (λ none. (none, sym (ap is_some (lost.others b none)) ∙ shows)) (cases_Bool (among x.names (name_of b)))))

    -- ---- an entry that is removed

    module _ {after : I → Option RowNames} (y : RowNames) (update : (i : I) → after i ≡ cond (eq at i) (Some y) (rows i))
        (gone : Name) (lost : HasLost S (gone ∷ []) R)
        (names : (n : Name) → among y.names n ≡ cond (is_name n gone) false (among x.names n)) where
      -- what the row lists it listed, and has another name
      named : (n : Name) → among y.names n ≡ true → (among x.names n ≡ true) × (among (gone ∷ []) n ≡ false)
      named n now = grind (arith, names n)

      pub forgotten_kept : IsDistinct is_name y.names → AllByRecursion (λ n. n ≡ S.number) y.stores
          → among x.names gone ≡ true → AreSessionsKept R eq after
      forgotten_kept once own had = changed_kept lost.simple lost.number lost.owners laws at (Some x) (Some y) there update
          (λ h is. subst (IsRow R) (same_Some y h is) (record {
            once = once;
            own = subst (λ m. AllByRecursion (λ n. n ≡ m) y.stores) (sym lost.number) own;
            live = λ b listed store. let at_it = named (name_of b) listed in
                ap is_some (lost.others b at_it.1) ∙ k.live at x has b at_it.0 (store ∙ lost.number);
          }))
          (λ i h f is b listed shows. ap is_some (lost.others b (beside i h f is (name_of b) listed)) ∙ shows)
          (λ i h f is n mine theirs. other_names i h f is n (named n mine).0 theirs)
          (λ b shows. ⊎_elim
          (λ one. absurd (true≢false (sym shows ∙ ap is_some (lost.ended b (one_listed b one)))))
          (λ ne. let was = sym (ap is_some (lost.others b (not_listed b ne))) ∙ shows in
          ⊎_elim (λ mine. inl (names (name_of b) ∙ grind (arith, name_same (name_of b) gone)))
          (λ none. inr (none, was)) (cases_Bool (among x.names (name_of b))))
          (name_cases (name_of b) gone))
        where
          one_listed : (b : GenerationalPointer) → name_of b ≡ gone → among (gone ∷ []) (name_of b) ≡ true
          one_listed b one = grind (arith, name_here gone)

          not_listed : (b : GenerationalPointer) → name_of b ≢ gone → among (gone ∷ []) (name_of b) ≡ false
          not_listed b ne = grind (arith, name_same (name_of b) gone)

          beside : (i : I) (h : RowNames) → eq at i ≡ false → rows i ≡ Some h → (n : Name) → among h.names n ≡ true
              → among (gone ∷ []) n ≡ false
          beside i h f is n theirs = false_from_ne_true _ (λ one. other_names i h f is n (grind (arith, name_same n gone)) theirs)

-- ---- a session that starts, and one that gets another id

module _ {I T : Type 0} {eq : I → I → Bool} {S : State T} {rows after : I → Option RowNames}
    (kept : AreSessionsKept S eq rows) (laws : IsEquivalence eq) where
  pub login_kept : (at : I)
      → ((i : I) → after i ≡ cond (eq at i) (Some (record { names = []; stores = [] })) (rows i))
      → ((i : I) → eq at i ≡ true → rows i ≡ None) → AreSessionsKept S eq after
  login_kept at update free = changed_kept S S kept kept.simple refl (λ o. refl) laws at None
      (Some (record { names = []; stores = [] })) free update
      (λ h is. subst (IsRow S) (same_Some _ h is) (record {
        once = none_twice;
        own = tt;
        live = λ b listed own. absurd (true≢false (sym listed));
      }))
      (λ i h f is b listed shows. shows) (λ i h f is n mine theirs. true≢false (sym mine)) (λ b shows. inr (refl, shows))

module _ {I T : Type 0} {eq : I → I → Bool} {S : State T} {rows after : I → Option RowNames}
    (kept : AreSessionsKept S eq rows) (laws : IsEquivalence eq) (k t : I) (h : RowNames)
    (update : (i : I) → after i ≡ cond (eq t i) (Some h) (cond (eq k i) None (rows i)))
    (there : (i : I) → eq k i ≡ true → rows i ≡ Some h) (free : (i : I) → eq t i ≡ true → rows i ≡ None)
  where
    -- each row was one, and is one
    was_row : (i : I) (g : RowNames) → after i ≡ Some g → (j : I) × (rows j ≡ Some g)
    was_row i g is = ⊎_elim (λ new. (k, grind (arith, update i, there k, laws.refl k)))
        (λ old. (i, grind (arith, update i))) (cases_Bool (eq t i))

    now_row : (i : I) (g : RowNames) → rows i ≡ Some g → (j : I) × (after j ≡ Some g)
    now_row i g is = grind (arith, update, laws.refl t, there i, free i)

    pub renamed_kept : AreSessionsKept S eq after
    renamed_kept = record {
      simple = kept.simple;
      unowned = kept.unowned;
      apart = λ i j g f is on n mine theirs.
          let first = λ (was : rows k ≡ Some g) (now : rows j ≡ Some f). kept.apart k j g f was now n mine theirs in
          let second = λ (was : rows i ≡ Some g) (now : rows k ≡ Some f). kept.apart i k g f was now n mine theirs in
          let both = λ (was : rows i ≡ Some g) (now : rows j ≡ Some f). kept.apart i j g f was now n mine theirs in
          let alike = laws.congr t i j in
          grind (arith, update i, update j, both, first, second, there k, laws.refl k, alike, laws.symm k i);
      once = λ i g is. let was = was_row i g is in kept.once was.0 g was.1;
      own = λ i g is. let was = was_row i g is in kept.own was.0 g was.1;
      kept = λ b shows. let was = kept.kept b shows in
          let now = now_row was.0 was.1 was.2 in (now.0, was.1, now.1, was.3);
      live = λ i g is. let was = was_row i g is in kept.live was.0 g was.1;
    }

-- ==== values that are removed, one after the other

module _ {T : Type 0} where
  -- of none
  pub lost_none : (S : State T) → IsSimple S → HasLost S [] S
  lost_none S simple = record {
    simple = simple;
    number = refl;
    next = refl;
    owners = λ o. refl;
    given = λ n was. was;
    ended = λ b is. absurd (true≢false (sym is));
    others = λ b is. refl;
  }

  -- of one, by a box of its id
  pub lost_one : {S R : State T} → IsSound S → IsSimple S → (e : Entry T) (b : GenerationalPointer) → b.id ≡ id_in e
      → ShowsSomething S (pointer_in e) → Meets S (End b) Done R → HasLost S (name_of (pointer_in e) ∷ []) R
  lost_one {S} {R} s k e b own shows m = record {
    simple = simple_still s k (End b) Done m tt tt;
    number = number;
    next = ended_next b Done m;
    owners = λ o. keeps_record (End b) Done m o tt tt;
    given = meets_given S R (End b) Done m;
    ended = λ c listed. ⊎_elim
        (λ same. sym (same_id_sees R b c (own ∙ grind (arith, name_same (name_of c) name, same, seen_store S (pointer_in e) s shows))) ∙ gone)
        (λ other. absent R c (λ is. other (seen_store R c sound is ∙ number))) (cases_store c);
    others = λ c out. same_value S R (End b) Done s m c (λ is. not_it c out (sym is ∙ ap name_in own)) tt;
  }
    where
      name : Name
      name = name_of (pointer_in e)

      number : R.number ≡ S.number
      number = meets_number S R (End b) Done m

      sound : IsSound R
      sound = meets_sound S R (End b) Done s m

      seen : ShowsSomething S b
      seen = ap is_some (same_id_sees S b (pointer_in e) own) ∙ shows

      gone : value_in R b ≡ None
      gone = unseen R b (ends b {U = Unit {0}} (Ok tt) m)

      cases_store : (c : GenerationalPointer) → (c.id.store ≡ S.number) ⊎ (c.id.store ≢ S.number)
      cases_store c = cases_eq c.id.store S.number

      absent : (X : State T) (c : GenerationalPointer) → (ShowsSomething X c → ⊥) → value_in X c ≡ None
      absent X c never = by_option (value_in X c) (λ none. none) (λ v is. absurd (never (ap is_some is)))

      not_it : (c : GenerationalPointer) → among (name ∷ []) (name_of c) ≡ false → name_of c ≡ name → ⊥
      not_it c out is = grind (arith, name_here name)

-- ==== what a caller knows of rows, and what they say of the store

module _ {I K T : Type 0} (eq : I → I → Bool) (S : State T) (rows : List (I × Session K T)) (sites : List Location) where
  -- the session of an id is that of its row
  pub session_row : (i : I) → session_in eq (table_of S rows sites) i ≡ option_map live (lookup (eq i) rows)
  session_row i = lookup-map_values live (eq i) rows

  -- an id keeps what its row lists
  pub keeps_row : (i : I) (h : RowNames) (e : Entry T) → held_in eq rows i ≡ Some h
      → keeps eq (table_of S rows sites) i e ≡ among h.names (name_of (pointer_in e))
  keeps_row i h e is = grind (arith, session_row i)

  pub kept_row : (i : I) (e : Entry T) → keeps eq (table_of S rows sites) i e ≡ true
      → (h : RowNames) × (held_in eq rows i ≡ Some h) × (among h.names (name_of (pointer_in e)) ≡ true)
  kept_row i e kept = by_option (lookup (eq i) rows) (λ none. cc (session_row i))
      (λ s some. (held_of s, ap (option_map held_of) some, cc (session_row i)))

  module _ (k : AreSessionsKept S eq (held_in eq rows)) where
    -- no entry is kept by two ids
    pub kept_once : (i j : I) (e : Entry T) → eq i j ≡ false → keeps eq (table_of S rows sites) i e ≡ true
        → keeps eq (table_of S rows sites) j e ≡ false
    kept_once i j e ne one = false_from_ne_true _ (λ two.
        let a = kept_row i e one in
        let b = kept_row j e two in
        true≢false (sym (k.apart i j a.0 b.0 a.1 b.1 (name_of (pointer_in e)) a.2 b.2) ∙ ne))

    pub kept_orderly : IsDistinct eq (keys_of rows) → IsOrderly eq (table_of S rows sites)
    kept_orderly once = let keys = keys_of-map_values live rows in record {
      once = rw keys once;
      kept = λ e shows. let at = k.kept (pointer_in e) shows in (at.0, keeps_row at.0 at.1 e at.2 ∙ at.3);
      apart = kept_once;
      live = λ i e kept own. let at = kept_row i e kept in k.live i at.0 at.1 (pointer_in e) at.2 own;
    }

-- ==== entries of which one is removed

-- a name from which all of a list differ isn't among them
apart_unnamed : (m n : Name) (names : List Name) → AllByRecursion (λ x. is_name m x ≡ false) names
    → is_name n m ≡ true → among names n ≡ false
apart_unnamed m n names apart same =
    rw (name_same n m same) (list_any_none (is_name m) names (All-from_recursion _ _ apart))

module _ {K T : Type 0} (test : K → Bool) where
  -- what is found is among all
  pub found_named : (es : List (K × Entry T)) (e : Entry T) → lookup test es ≡ Some e
      → among (entry_names es) (name_of (pointer_in e)) ≡ true
  found_named [] e is = cc
  found_named (x ∷ es) e is = grind (arith, name_here (name_of (pointer_in e)), found_named es e)

  -- without it all the other names are there, and its isn't
  pub named_removed : (es : List (K × Entry T)) (e : Entry T) → lookup test es ≡ Some e
      → IsDistinct is_name (entry_names es) → (n : Name) → among (entry_names (remove_entry test es)) n
      ≡ cond (is_name n (name_of (pointer_in e))) false (among (entry_names es) n)
  unfolding IsDistinct
  named_removed [] e is once n = cc
  named_removed (x ∷ es) e is once n =
      let apart = apart_unnamed (name_of (pointer_in x.1)) n (entry_names es) once.0 in
      grind (arith, name_same, found_named es e, named_removed es e, apart)

  -- what holds of all of them holds of the one that is found
  pub found_all : {X : Type 0} (f : Entry T → X) (P : X → Type 0) (es : List (K × Entry T)) (e : Entry T)
      → lookup test es ≡ Some e → AllByRecursion P (map (λ x. f x.1) es) → P (f e)
  found_all f P [] e is all = cc
  found_all f P (x ∷ es) e is all = grind (arith, found_all f P es e)

  -- what holds of all of them holds of the rest
  pub removed_all : {X : Type 0} (f : K × Entry T → X) (P : X → Type 0) (es : List (K × Entry T))
      → AllByRecursion P (map f es) → AllByRecursion P (map f (remove_entry test es))
  removed_all f P es all = recursion_from_All P _ (All-map-remove_entry test f P es (All-from_recursion P _ all))

  -- and none of them is there twice
  pub removed_once : (es : List (K × Entry T)) → IsDistinct is_name (entry_names es)
      → IsDistinct is_name (entry_names (remove_entry test es))
  unfolding IsDistinct
  removed_once [] once = once
  removed_once (x ∷ es) once =
      let apart = λ (n : Name). is_name (name_of (pointer_in x.1)) n ≡ false in
      let left = removed_all (λ y. name_of (pointer_in y.1)) apart es once.0 in
      grind (arith, left, removed_once es once.1)

  -- the index of what is found
  found_at : (es : List (K × Entry T)) (e : Entry T) → lookup test es ≡ Some e
      → (i : ℕ) × (k : K) × (position test (keys_of es) ≡ Some i) × (slice_get es i ≡ Some (k, e))
  found_at [] e is = cc
  found_at (x ∷ es) e is = ⊎_elim
      (λ yes. (0, x.0, grind (arith, yes), ap (λ v. Some (x.0, v)) (same_Some x.1 e (grind (arith, yes, is)))))
      (λ no. let later = found_at es e (grind (arith, no, is)) in (suc later.0, later.1, grind (arith, no, later.2), later.3))
      (cases_Bool (test x.0))

  -- if the last one takes its place, all are there, in another order
  moved : (es : List (K × Entry T)) (e : Entry T) → lookup test es ≡ Some e
      → (k : K) × IsPermutation es ((k, e) ∷ swap_remove_entry test es)
  moved es e is =
      let (i, k, at, there) = found_at es e is in (
        k,
        rw (swap_remove_entry-found test es i (k, e) at) (IsPermutation-swap_remove es i (k, e)
            (slice_get_within es i (k, e) there) (sym (get_or_from_slice_get es i (k, e) (k, e) there))),
      )

  moved_once : (es : List (K × Entry T)) (e : Entry T) → lookup test es ≡ Some e → IsDistinct is_name (entry_names es)
      → IsDistinct is_name (name_of (pointer_in e) ∷ entry_names (swap_remove_entry test es))
  moved_once es e is once =
      let (k, order) = moved es e is in
      IsDistinct-IsPermutation is_name name_equal.symm _ _
      (IsPermutation-map (λ (x : K × Entry T). name_of (pointer_in x.1)) es _ order) once

  -- what is left, in order or not: all the other names, and not its own; none twice; and what holds of all
  pub named_left : (in_order : Bool) (es : List (K × Entry T)) (e : Entry T) → lookup test es ≡ Some e
      → IsDistinct is_name (entry_names es) → (n : Name) → among (entry_names (left_of in_order test es)) n
      ≡ cond (is_name n (name_of (pointer_in e))) false (among (entry_names es) n)
  unfolding IsDistinct
  named_left true es e is once n = named_removed es e is once n
  named_left false es e is once n =
      let (k, order) = moved es e is in
      let any = list_any-IsPermutation (is_name n) _ _
      (IsPermutation-map (λ (x : K × Entry T). name_of (pointer_in x.1)) es _ order) in
      let apart = apart_unnamed (name_of (pointer_in e)) n (entry_names (swap_remove_entry test es)) (moved_once es e is once).0 in
      grind (arith, any, apart)

  pub left_once : (in_order : Bool) (es : List (K × Entry T)) (e : Entry T) → lookup test es ≡ Some e
      → IsDistinct is_name (entry_names es) → IsDistinct is_name (entry_names (left_of in_order test es))
  unfolding IsDistinct
  left_once true es e is once = removed_once es once
  left_once false es e is once = (moved_once es e is once).1

  pub left_all : {X : Type 0} (f : K × Entry T → X) (P : X → Type 0) (in_order : Bool) (es : List (K × Entry T))
      (e : Entry T) → lookup test es ≡ Some e → AllByRecursion P (map f es) → AllByRecursion P (map f (left_of in_order test es))
  left_all f P true es e is all = removed_all f P es all
  left_all f P false es e is all =
      let (k, order) = moved es e is in
      (recursion_from_All P (f (k, e) ∷ map f (swap_remove_entry test es))
      (All-map-IsPermutation f P es ((k, e) ∷ swap_remove_entry test es) order (All-from_recursion P _ all))).1

-- ==== rows of which one is removed, and tables whose old sessions end

-- what is before an index stays there
pub taken_before : {X : Type 0} (xs : List X) (i : ℕ) (d : X) → i < length xs
    → take i (swap_remove xs i d) ≡ take i xs
taken_before xs i d lt = take-take i (length xs - 1) _ (omega (arith, lt)) ∙ take-set xs i _

-- behind a row
swap_cons : {X : Type 0} (x y : X) (ys : List X) (i : ℕ) (d : X)
    → swap_remove (x ∷ y ∷ ys) (suc i) d ≡ x ∷ swap_remove (y ∷ ys) i d
swap_cons x y ys i d = simp sub-one

-- what is at an index and after is filtered like the whole list
pub dropped_from : {X : Type 0} (xs : List X) (i : ℕ) (d : X) → i < length xs
    → drop i (swap_remove xs i d) ≡ swap_remove (drop i xs) 0 d
dropped_from [] i d lt = absurd (omega (arith, lt))
dropped_from (x ∷ xs) zero d lt = refl
dropped_from (x ∷ []) (suc i) d lt = absurd (omega (arith, lt))
dropped_from (x ∷ y ∷ ys) (suc i) d lt = ap (drop (suc i)) (swap_cons x y ys i d) ∙ dropped_from (y ∷ ys) i d (omega (arith, lt))

-- the row at a place
pub row_within : {X : Type 0} (xs : List X) (i : ℕ) → i < length xs → (x : X) × (slice_get xs i ≡ Some x)
row_within [] i lt = absurd (omega (arith, lt))
row_within (x ∷ xs) zero lt = (x, refl)
row_within (x ∷ xs) (suc i) lt = row_within xs i (omega (arith, lt))

cut_at : {X : Type 0} (xs : List X) (i : ℕ) (x : X) → slice_get xs i ≡ Some x → drop i xs ≡ x ∷ drop (i + 1) xs
cut_at xs i x is = rw add-one (drop-cons xs i x (slice_get_within xs i x is)
    ∙ ap (λ v. v ∷ drop (suc i) xs) (get_or_from_slice_get xs i x x is))

-- a look at the first row
first_old : {X : Type 0} (test : X → Bool) (n : ℕ) (x : X) (xs : List X) → test x ≡ false
    → swap_retain test (suc n) (x ∷ xs) ≡ swap_retain test n (swap_remove (x ∷ xs) 0 x)
first_old test n x xs old = rw old refl

first_young : {X : Type 0} (test : X → Bool) (n : ℕ) (x : X) (xs : List X) → test x ≡ true
    → swap_retain test (suc n) (x ∷ xs) ≡ x ∷ swap_retain test n xs
first_young test n x xs young = rw young refl

shed_first : {X : Type 0} (test : X → Bool) (n : ℕ) (x : X) (xs : List X) → test x ≡ false
    → swap_shed test (suc n) (x ∷ xs) ≡ x ∷ swap_shed test n (swap_remove (x ∷ xs) 0 x)
shed_first test n x xs old = rw old refl

shed_none : {X : Type 0} (test : X → Bool) (n : ℕ) (x : X) (xs : List X) → test x ≡ true
    → swap_shed test (suc n) (x ∷ xs) ≡ swap_shed test n xs
shed_none test n x xs young = rw young refl

module _ {X : Type 0} (test : X → Bool) (xs : List X) (i : ℕ) where
  pub retained_old : (x : X) (ys : List X) → slice_get xs i ≡ Some x → test x ≡ false
      → length ys + 1 ≡ length xs → ys ≡ swap_remove xs i x
      → take i xs ++ swap_retain test (length xs - i) (drop i xs)
      ≡ take i ys ++ swap_retain test (length ys - i) (drop i ys)
  retained_old x ys is old fewer order =
      let lt = slice_get_within xs i x is in
      let n = length ys - i in
      let count : length xs - i ≡ suc n = omega (arith, lt, fewer) in
      let cut = cut_at xs i x is in
      let rest = drop (i + 1) xs in
      let left : swap_remove (x ∷ rest) 0 x ≡ drop i ys =
      ap (λ l. swap_remove l 0 x) (sym cut) ∙ (sym (dropped_from xs i x lt) ∙ ap (drop i) (sym order)) in
      let front : take i xs ≡ take i ys = sym (taken_before xs i x lt) ∙ ap (take i) (sym order) in
      let back : swap_retain test (length xs - i) (drop i xs) ≡ swap_retain test n (drop i ys) =
      (λ j. swap_retain test (count j) (cut j))
      ∙ (first_old test n x rest old ∙ ap (swap_retain test n) left) in
      λ j. front j ++ back j

  pub retained_young : (x : X) → slice_get xs i ≡ Some x → test x ≡ true
      → take i xs ++ swap_retain test (length xs - i) (drop i xs)
      ≡ take (i + 1) xs ++ swap_retain test (length xs - (i + 1)) (drop (i + 1) xs)
  retained_young x is young =
      let lt = slice_get_within xs i x is in
      let n = length xs - (i + 1) in
      let count : length xs - i ≡ suc n = omega (arith, lt) in
      let cut = cut_at xs i x is in
      let rest = drop (i + 1) xs in
      let front : take (i + 1) xs ≡ take i xs ++ x ∷ [] = rw add-one (take-suc xs i x lt
      ∙ ap (λ v. take i xs ++ v ∷ []) (get_or_from_slice_get xs i x x is)) in
      let back : swap_retain test (length xs - i) (drop i xs) ≡ x ∷ swap_retain test n rest =
      (λ j. swap_retain test (count j) (cut j)) ∙ first_young test n x rest young in
      ap (λ l. take i xs ++ l) back ∙ (sym (append_assoc (take i xs) (x ∷ []) (swap_retain test n rest))
      ∙ ap (λ l. l ++ swap_retain test n rest) (sym front))

  -- the same of those that are taken out
  pub shed_old : (x : X) (ys : List X) → slice_get xs i ≡ Some x → test x ≡ false
      → length ys + 1 ≡ length xs → ys ≡ swap_remove xs i x
      → swap_shed test (length xs - i) (drop i xs) ≡ x ∷ swap_shed test (length ys - i) (drop i ys)
  shed_old x ys is old fewer order =
      let lt = slice_get_within xs i x is in
      let n = length ys - i in
      let count : length xs - i ≡ suc n = omega (arith, lt, fewer) in
      let cut = cut_at xs i x is in
      let rest = drop (i + 1) xs in
      let left : swap_remove (x ∷ rest) 0 x ≡ drop i ys =
      ap (λ l. swap_remove l 0 x) (sym cut) ∙ (sym (dropped_from xs i x lt) ∙ ap (drop i) (sym order)) in
      (λ j. swap_shed test (count j) (cut j))
      ∙ (shed_first test n x rest old ∙ ap (λ l. x ∷ swap_shed test n l) left)

  pub shed_young : (x : X) → slice_get xs i ≡ Some x → test x ≡ true
      → swap_shed test (length xs - i) (drop i xs) ≡ swap_shed test (length xs - (i + 1)) (drop (i + 1) xs)
  shed_young x is young =
      let lt = slice_get_within xs i x is in
      let n = length xs - (i + 1) in
      let count : length xs - i ≡ suc n = omega (arith, lt) in
      (λ j. swap_shed test (count j) (cut_at xs i x is j)) ∙ shed_none test n x (drop (i + 1) xs) young

  pub shed_all : length xs ≤ i → swap_shed test (length xs - i) (drop i xs) ≡ []
  shed_all all =
      let none : length xs - i ≡ 0 = omega (arith, all) in
      ap (λ n. swap_shed test n (drop i xs)) none

  pub retained_all : length xs ≤ i → take i xs ++ swap_retain test (length xs - i) (drop i xs) ≡ xs
  retained_all all =
      let none : length xs - i ≡ 0 = omega (arith, all) in
      ap (λ n. take i xs ++ swap_retain test n (drop i xs)) none ∙ (append-nil (take i xs) ∙ take_all i xs all)

-- what a caller knows of rows of which one was removed, by its index or by its id
module _ {I K T : Type 0} where
  pub live_swapped : (rows : List (I × Session K T)) (i : ℕ) (e : I × Session K T) → i < length rows
      → map live_row (swap_remove rows i e) ≡ swap_remove (map live_row rows) i (live_row e)
  live_swapped rows i e lt = map-swap_remove live_row rows i e (omega (arith, lt))

  pub live_removed : (test : I → Bool) (rows : List (I × Session K T))
      → map live_row (swap_remove_entry test rows) ≡ swap_remove_entry test (map live_row rows)
  live_removed test [] = refl
  live_removed test (e ∷ es) =
      let keys = ap (position test) (keys_of-map_values live (e ∷ es)) in
      by_option (position test (keys_of (e ∷ es)))
      (λ none. ap (map live_row) (swap_remove_entry-missing test (e ∷ es) none)
      ∙ sym (swap_remove_entry-missing test (map live_row (e ∷ es)) (keys ∙ none)))
      (λ i is. ap (map live_row) (swap_remove_entry-found test (e ∷ es) i e is)
      ∙ (map-swap_remove live_row (e ∷ es) i e (omega arith)
      ∙ sym (swap_remove_entry-found test (map live_row (e ∷ es)) i (live_row e) (keys ∙ is))))

-- before the first look nothing was taken out
start_left : {X : Type 0} (test : X → Bool) (xs : List X) → swap_retain test (length xs) xs
    ≡ swap_retain test (length xs - 0) (drop 0 xs)
start_left test xs = let none : length xs - 0 ≡ length xs = omega arith in ap (λ n. swap_retain test n xs) (sym none)

shed_left : {X : Type 0} (test : X → Bool) (xs : List X) → swap_shed test (length xs) xs
    ≡ swap_shed test (length xs - 0) (drop 0 xs)
shed_left test xs = let none : length xs - 0 ≡ length xs = omega arith in ap (λ n. swap_shed test n xs) (sym none)

module _ {I K T : Type 0} (eq : I → I → Bool) (time : ℕ) where
  -- from the one table to the other some old sessions have ended: those before an index are young, and
  -- the others are still to be checked; an id has the same session, or none if that was old, and every
  -- entry is unchanged except for those of such an id
  pub record Sheds (place : ℕ) (a b : SessionsState I K T) : Type 0 where
    pub within : place ≤ length b.sessions
    pub fewer : length b.sessions ≤ length a.sessions
    pub young : (i : ℕ) (e : I × LiveSession K T) → i < place → slice_get b.sessions i ≡ Some e
        → is_young time e.1 ≡ true
    pub order : swap_retain (λ row. is_young time row.1) (length a.sessions) a.sessions
        ≡ take place b.sessions ++ swap_retain (λ row. is_young time row.1) (length b.sessions - place) (drop place b.sessions)
    pub sessions : (id : I) → (session_in eq b id ≡ session_in eq a id)
        ⊎ ((session_in eq b id ≡ None) × (if_young time (session_in eq a id) ≡ None))
    pub left : (e : Entry T) → (shown_in b e ≡ shown_in a e)
        ⊎ ((shown_in b e ≡ None) × ((id : I) × (keeps eq a id e ≡ true) × (session_in eq b id ≡ None)))
    pub put : (e : Entry T) → WasPut a e → WasPut b e
    pub told : (e : Entry T) → created_at b e ≡ created_at a e
    pub ticket : b.state.next ≡ a.state.next

  pub none_shed : (a : SessionsState I K T) → Sheds 0 a a
  none_shed a = record {
    within = omega arith;
    fewer = omega arith;
    young = λ i e lt is. absurd (omega (arith, lt));
    order = start_left (λ (row : I × LiveSession K T). is_young time row.1) a.sessions;
    sessions = λ id. inl refl;
    left = λ e. inl refl;
    put = λ e was. was;
    told = λ e. refl;
    ticket = refl;
  }

module _ {I K T : Type 0} {eq : I → I → Bool} {time : ℕ} where
  module _ {place : ℕ} {a b : SessionsState I K T} (s : Sheds eq time place a b) where
    -- what an id has it had
    had : (id : I) (x : LiveSession K T) → session_in eq b id ≡ Some x → session_in eq a id ≡ Some x
    had id x is = grind (arith, s.sessions id)

    -- the session at the index is old, and ends
    pub sheds_old : IsEquivalence eq → {c : SessionsState I K T} → (e : EndsAt eq place b c)
        → is_young time e.ended.1 ≡ false → Sheds eq time place a c
    sheds_old laws {c} e old =
        let was = had e.ended.0 e.ended.1 e.found in
        let within = slice_get_within b.sessions place e.ended e.there in
        let alike = lookup_congr eq laws.congr a.sessions e.ended.0 in
        let own = laws.refl e.ended.0 in
        let before = get_take b.sessions place in
        let after = get_take c.sessions place in
        let front = ap (take place) e.order ∙ taken_before b.sessions place e.ended within in
        let told = λ (f : Entry T). e.told f ∙ s.told f in
        let order = s.order ∙ retained_old (λ (row : I × LiveSession K T). is_young time row.1) b.sessions place e.ended
        c.sessions e.there old e.fewer e.order in
        grind (arith, e.sessions, s.sessions, was, alike, own, e.gone, e.left, s.left, s.young, before, after, within, front, order, told)

    -- the session at the place is young, and stays
    pub sheds_young : place < length b.sessions → ((e : I × LiveSession K T)
        → slice_get b.sessions place ≡ Some e → is_young time e.1 ≡ true) → Sheds eq time (place + 1) a b
    sheds_young within young =
        let (e, there) = row_within b.sessions place within in
        let now = young e there in
        let order = s.order ∙ retained_young (λ (row : I × LiveSession K T). is_young time row.1) b.sessions place e there now in
        grind (arith, s.young, s.sessions, s.left, s.fewer, within, order, there, now)

    -- ---- once each session is young

    pub shed_order : length b.sessions ≤ place
        → b.sessions ≡ swap_retain (λ row. is_young time row.1) (length a.sessions) a.sessions
    shed_order all = sym (s.order ∙ retained_all (λ (row : I × LiveSession K T). is_young time row.1) b.sessions place all)

    pub shed_ids : length b.sessions ≤ place → (id : I)
        → session_in eq b id ≡ if_young time (session_in eq a id)
    shed_ids all id = by_option (session_in eq b id) (λ is. grind (arith, s.sessions id))
        (λ x is. let p = place_from_lookup (eq id) b.sessions x is in
        let lt = slice_get_within b.sessions p.0 (p.1, x) p.2 in
        grind (arith, had id x is, s.young p.0 (p.1, x) (omega (arith, lt, all)) p.2))

    module _ (laws : IsEquivalence eq) (was : IsOrderly eq a) where
      -- the ids that keep an entry have one session
      keepers : (i j : I) (e : Entry T) → keeps eq a i e ≡ true → keeps eq a j e ≡ true
          → session_in eq b i ≡ session_in eq b j
      keepers i j e x y = grind (arith, was.apart i j e, lookup_congr eq laws.congr b.sessions i j)

      pub shed_kept : (id : I) (e : Entry T) → keeps eq a id e ≡ true → has_session eq b id ≡ true
          → shown_in b e ≡ shown_in a e
      shed_kept id e kept has = grind (arith, s.left e, keepers id)

      pub all_expired : IsOrderly eq b → length b.sessions ≤ place → HasExpired eq time a b
      all_expired now all = record {
        ids = shed_ids all;
        order = shed_order all;
        gone = λ id e kept none. by_option (shown_in b e) (λ is. is) (λ v is.
            let at = now.kept e (ap is_some is) in
            absurd (grind (arith, s.sessions at.0, keepers id at.0 e kept, none, at.1)));
        kept = shed_kept;
        none = λ e none. grind (arith, s.left e);
        put = s.put;
        told = s.told;
        ticket = s.ticket;
      }

-- ==== a closure that is called on the ids of sessions that end

module _ {I K T F : Type 0} (time : ℕ) (step : F → I → F → Type 0) (first : F) where
  abbrev ids_from : ℕ → SessionsState I K T → List I
  ids_from place b = map (λ row. row.0) (swap_shed (λ row. is_young time row.1) (length b.sessions - place) (drop place b.sessions))

  -- if it is called on the ids of those that are still to end, then it was called on those of all
  pub record AreCalled (place : ℕ) (a b : SessionsState I K T) (now : F) : Type 0 where
    pub whole : (last : F) → FoldsTo step now (ids_from place b) last → FoldsTo step first (expired_ids time a) last

  pub none_called : (a : SessionsState I K T) → AreCalled 0 a a first
  none_called a = record {
    whole = λ last calls. rw (shed_left (λ (row : I × LiveSession K T). is_young time row.1) a.sessions) calls;
  }

  module _ {place : ℕ} {a b : SessionsState I K T} {now : F} (so : AreCalled place a b now) where
    -- one more has ended
    pub called_old : {eq : I → I → Bool} {c : SessionsState I K T} → (e : EndsAt eq place b c) → is_young time e.ended.1 ≡ false
        → {next : F} → step now e.ended.0 next → AreCalled place a c next
    called_old {c = c} e old {next} called = record {
      whole = λ last calls. so.whole last (rw (shed_old (λ (row : I × LiveSession K T). is_young time row.1) b.sessions
          place e.ended c.sessions e.there old e.fewer e.order) (next, called, calls));
    }

    -- one stays
    pub called_young : place < length b.sessions → ((e : I × LiveSession K T)
        → slice_get b.sessions place ≡ Some e → is_young time e.1 ≡ true) → AreCalled (place + 1) a b now
    called_young within young = let (e, there) = row_within b.sessions place within in record {
      whole = λ last calls. so.whole last (rw (shed_young (λ (row : I × LiveSession K T). is_young time row.1) b.sessions
          place e there (young e there)) calls);
    }

    -- once each session is young
    pub all_called : length b.sessions ≤ place → FoldsTo step first (expired_ids time a) now
    all_called all = so.whole now (rw (shed_all (λ (row : I × LiveSession K T). is_young time row.1) b.sessions place all) refl)

-- a session that starts, or gets another id, comes last
pub begun_last : {I K T : Type 0} (eq : I → I → Bool) (old : List (I × Session K T)) {new : List (I × Session K T)}
    (k : I) (s : Session K T) → lookup (eq k) old ≡ None → new ≡ insert_entry eq old k s
    → map live_row new ≡ map live_row old ++ (k, live s) ∷ []
begun_last eq old k s none is =
    ap (map live_row) (is ∙ insert_entry-absent eq k s old (absent_from_lookup (eq k) old none))
    ∙ map-append live_row old ((k, s) ∷ [])

-- there are no rows if none are counted
pub none_left : {I K T : Type 0} {eq : I → I → Bool} (S : State T) (rows : List (I × Session K T)) (sites : List Location)
    {t : SessionsState I K T} (n : ℕ) → AreSessionsKept S eq (held_in eq rows) → table_of S rows sites ≡ t
    → n ≡ length t.sessions → n ≤ 0 → AreSessionsKept S eq no_rows
none_left S [] sites n k is len low = k
none_left S (x ∷ rows) sites n k is len low = absurd (omega (arith, ap (λ t. length t.sessions) is))

-- ==== what a caller knows after one row has changed

-- a row's session that is to a caller what it was
pub same_sessions : {I K T : Type 0} (test : I → Bool) (es : List (I × Session K T)) (s w : Session K T)
    → lookup test es ≡ Some s → live w ≡ live s → map live_row (set_value test es w) ≡ map live_row es
same_sessions test [] s w found same = refl
same_sessions test (e ∷ es) s w found same = grind (arith, same_sessions test es s w)

-- the session of an id that has a row, and of one that has none
pub session_of : {I K T : Type 0} (test : I → Bool) (rows : List (I × Session K T))
    {o : Option (Session K T)} → lookup test rows ≡ o → lookup test (map live_row rows) ≡ option_map live o
session_of test rows is = lookup-map_values live test rows ∙ ap (option_map live) is

pub no_row : {I K T : Type 0} (test : I → Bool) (rows : List (I × Session K T))
    → is_some (lookup test (map live_row rows)) ≡ false → lookup test rows ≡ None
no_row test rows none = by_option (lookup test rows) (λ is. is) (λ s is. cc (session_of test rows is))

-- what has no value is none
pub no_value : {X : Type 0} (o : Option X) → is_some o ≡ false → o ≡ None
no_value o none = grind arith

-- a query that finds a session asks for the id under which it is stored
pub asked_id : {I R : Type 0} {eq : I → I → Bool} {test : I → Bool}
    → ((x y : I) → IsTrue (test x) → test y ≡ eq x y) → (rows : List (I × R)) {s : R} → lookup test rows ≡ Some s
    → (k : I) × (test ≡ eq k)
asked_id {test = test} alike rows {s} found =
    let at = place_from_lookup test rows s found in (at.1, λ j y. alike at.1 y at.3 j)

-- the row of an id is another one, or is new, or gone
pub record IsChange {I R : Type 0} (eq : I → I → Bool) (old new : List (I × R)) (k : I)
    (was now : Option R) : Type 0 where
  pub laws : IsEquivalence eq
  pub there : lookup (eq k) old ≡ was
  pub after : (q : I) → lookup (eq q) new ≡ cond (eq k q) now (lookup (eq q) old)

pub changed : {I R : Type 0} {eq : I → I → Bool} (laws : IsEquivalence eq) {old new : List (I × R)} (k : I)
    {was now : Option R} → lookup (eq k) old ≡ was
    → ((q : I) → lookup (eq q) new ≡ cond (eq k q) now (lookup (eq q) old)) → IsChange eq old new k was now
changed laws k there after = record { laws = laws; there = there; after = after }

module _ {I K T : Type 0} {eq : I → I → Bool} {old new : List (I × Session K T)} {k : I}
    {was now : Option (Session K T)} (c : IsChange eq old new k was now) where
  same_id : (q : I) → eq k q ≡ true → lookup (eq q) old ≡ was
  same_id q t = cc (lookup_congr eq c.laws.congr old k q t, c.there)

  pub held_there : (q : I) → eq k q ≡ true → held_in eq old q ≡ option_map held_of was
  held_there q t = ap (option_map held_of) (same_id q t)

  pub held_after : (q : I) → held_in eq new q ≡ cond (eq k q) (option_map held_of now) (held_in eq old q)
  held_after q = grind (arith, c.after q)

  -- one whose owner and entries are unchanged
  pub same_rows : {S : State T} → AreSessionsKept S eq (held_in eq old)
      → option_map held_of now ≡ option_map held_of was → AreSessionsKept S eq (held_in eq new)
  same_rows kept same = same_kept kept (λ q. grind (arith, held_after q, held_there q))

  pub now_session : (q : I) → lookup (eq q) (map live_row new)
      ≡ cond (eq k q) (option_map live now) (lookup (eq q) (map live_row old))
  now_session q = grind (arith, c.after q, session_of (eq q) old refl, session_of (eq q) new refl)

  pub own_session : lookup (eq k) (map live_row new) ≡ option_map live now
  own_session = grind (arith, now_session k, c.laws.refl k)

  pub other_sessions : (q : I) → eq k q ≡ false → lookup (eq q) (map live_row new) ≡ lookup (eq q) (map live_row old)
  other_sessions q f = grind (arith, now_session q)

-- a value that is put
module _ {I K T : Type 0} {eq : I → I → Bool} {old new : List (I × Session K T)} {k : I} {s w : Session K T}
    (c : IsChange eq old new k (Some s) (Some w)) (key : K) (e : Entry T)
    (entries : w.entries.entries ≡ s.entries.entries ++ (key, e) ∷ []) where
  grown_names : entry_names w.entries.entries ≡ entry_names s.entries.entries ++ name_of (pointer_in e) ∷ []
  grown_names = grind (arith, map-append (λ (x : K × Entry T). name_of (pointer_in x.1)) s.entries.entries ((key, e) ∷ []))

  grown_stores : stores_of w.entries.entries ≡ stores_of s.entries.entries ++ (pointer_in e).id.store ∷ []
  grown_stores = grind (arith, map-append (λ (x : K × Entry T). (pointer_in x.1).id.store) s.entries.entries ((key, e) ∷ []))

  pub put_rows : {S R : State T} → IsSound S → AreSessionsKept S eq (held_in eq old) → (v : T) (l : Location)
      → HasPut S v l e R → AreSessionsKept R eq (held_in eq new)
  put_rows {S} {R} sound kept v l put = put_kept S R kept c.laws k (held_of s)
      (held_there c) sound (held_of w) (held_after c) v l e grown_names grown_stores put

  -- what is listed is the new entry, and what was
  grown_listed : (f : Entry T) → among (entry_names w.entries.entries) (name_of (pointer_in f))
      ≡ (among (entry_names s.entries.entries) (name_of (pointer_in f))
      || is_name (name_of (pointer_in f)) (name_of (pointer_in e)))
  grown_listed f = grind (arith, grown_names, list_any-append)

  -- the id keeps the new entry
  pub put_keeps : among (entry_names_in (lookup (eq k) (map live_row new))) (name_of (pointer_in e)) ≡ true
  put_keeps = grind (arith, own_session c, grown_listed e, name_here (name_of (pointer_in e)))

  module _ (q : I) (f : Entry T) where
    -- what was kept is kept, and nothing else of what was issued
    pub put_still : among (entry_names_in (lookup (eq q) (map live_row old))) (name_of (pointer_in f)) ≡ true
        → among (entry_names_in (lookup (eq q) (map live_row new))) (name_of (pointer_in f)) ≡ true
    put_still was = grind (arith, now_session c q, same_id c q, session_of (eq q) old refl, grown_listed f)

    pub put_unkept : name_of (pointer_in e) ≢ name_of (pointer_in f)
        → among (entry_names_in (lookup (eq q) (map live_row old))) (name_of (pointer_in f)) ≡ false
        → among (entry_names_in (lookup (eq q) (map live_row new))) (name_of (pointer_in f)) ≡ false
    put_unkept ne was =
        let apart = name_apart (name_of (pointer_in f)) (name_of (pointer_in e)) in
        grind (arith, now_session c q, same_id c q, session_of (eq q) old refl, grown_listed f, apart)

-- an entry that is removed
module _ {I K T : Type 0} {eq : I → I → Bool} {S : State T} (old : List (I × Session K T)) (k : I)
    {s : Session K T} (kept : AreSessionsKept S eq (held_in eq old)) (found : lookup (eq k) old ≡ Some s) (test : K → Bool)
    {e : Entry T} (there : lookup test s.entries.entries ≡ Some e) where
  row : held_in eq old k ≡ Some (held_of s)
  row = ap (option_map held_of) found

  -- it is of the store, is listed, and shows something
  pub row_own : (pointer_in e).id.store ≡ S.number
  row_own = found_all test (λ (x : Entry T). (pointer_in x).id.store) (λ n. n ≡ S.number) s.entries.entries e there
      (kept.own k (held_of s) row)

  pub row_shows : ShowsSomething S (pointer_in e)
  row_shows = kept.live k (held_of s) row (pointer_in e) (found_named test s.entries.entries e there) row_own

  pub forgotten_rows : {R : State T} {new : List (I × Session K T)} {w : Session K T} (in_order : Bool)
      → IsChange eq old new k (Some s) (Some w) → w.entries.entries ≡ left_of in_order test s.entries.entries
      → HasLost S (name_of (pointer_in e) ∷ []) R → AreSessionsKept R eq (held_in eq new)
  forgotten_rows {R} {w = w} in_order c entries lost =
      let once = kept.once k (held_of s) row in
      forgotten_kept S R kept c.laws k (held_of s) (held_there c) (held_of w) (held_after c) (name_of (pointer_in e)) lost
      (λ n. ap (λ es. among (entry_names es) n) entries ∙ named_left test in_order s.entries.entries e there once n)
      (rw entries (left_once test in_order s.entries.entries e there once))
      (rw entries (left_all test (λ (x : K × Entry T). (pointer_in x.1).id.store) (λ n. n ≡ S.number) in_order
      s.entries.entries e there (kept.own k (held_of s) row)))
      (found_named test s.entries.entries e there)

-- an entry that a session has under a key shows something
pub entry_shows : {I K T : Type 0} {eq : I → I → Bool} {S : State T} {test : I → Bool}
    → ((x y : I) → IsTrue (test x) → test y ≡ eq x y) → (rows : List (I × Session K T)) → AreSessionsKept S eq (held_in eq rows)
    → {s : Session K T} → lookup test rows ≡ Some s → (key : K → Bool) (o : Option (Entry T))
    → o ≡ lookup key s.entries.entries → IfSome o (λ e. ShowsSomething S (pointer_in e))
entry_shows alike rows kept found key None is = tt
entry_shows alike rows kept found key (Some e) is =
    let asked = asked_id alike rows found in row_shows rows asked.0 kept (rw (asked.1) at found) key (sym is)

-- a session that ends
module _ {I K T : Type 0} {eq : I → I → Bool} {S R : State T} {old new : List (I × Session K T)} {k : I}
    {s : Session K T} (kept : AreSessionsKept S eq (held_in eq old)) (c : IsChange eq old new k (Some s) None)
    (lost : HasLost S (entry_names s.entries.entries) R) where
  pub ended_rows : AreSessionsKept R eq (held_in eq new)
  ended_rows = ended_kept S R kept c.laws k (held_of s) (held_there c) (held_after c) lost

-- what a row lists is live, and each entry once
module _ {I K T : Type 0} {eq : I → I → Bool} {S : State T} (rows : List (I × Session K T))
    (kept : AreSessionsKept S eq (held_in eq rows)) (k : I) (s : Session K T) (found : lookup (eq k) rows ≡ Some s) where
  pub row_live : AreLive S s.entries.entries
  row_live = record {
    own = kept.own k (held_of s) (ap (option_map held_of) found);
    live = kept.live k (held_of s) (ap (option_map held_of) found);
  }

  pub row_once : IsDistinct is_name (entry_names s.entries.entries)
  row_once = kept.once k (held_of s) (ap (option_map held_of) found)

-- a session that begins
pub login_rows : {I K T : Type 0} {eq : I → I → Bool} {S : State T} {old new : List (I × Session K T)}
    {k : I} {s : Session K T} (kept : AreSessionsKept S eq (held_in eq old)) (c : IsChange eq old new k None (Some s))
    → s.entries.entries ≡ [] → AreSessionsKept S eq (held_in eq new)
login_rows {eq = eq} {S} {old = old} {k = k} {s = s} kept c empty = login_kept kept c.laws k
    (λ q. held_after c q ∙ ap (λ es. cond (eq k q) (Some (record { names = entry_names es; stores = stores_of es }))
    (held_in eq old q)) empty) (held_there c)

-- an id that had no session has none after another went, and one whose session went to another has none
pub still_none : {I R : Type 0} {eq : I → I → Bool} {old new : List (I × R)} {k : I} {was : Option R}
    → IsChange eq old new k was None → (q : I) → lookup (eq q) old ≡ None → lookup (eq q) new ≡ None
still_none c q none = grind (arith, c.after q)

pub left_none : {I K T : Type 0} {eq : I → I → Bool} {old mid new : List (I × Session K T)} {k t : I}
    {s w : Session K T} → IsChange eq old mid k (Some s) None → IsChange eq mid new t None (Some w)
    → lookup (eq t) old ≡ None → lookup (eq k) (map live_row new) ≡ None
left_none {eq = eq} {old = old} {k = k} {t} c d free =
    grind (arith, now_session d k, own_session c, c.there, lookup_congr eq c.laws.congr old t k)

-- a session that gets another id
pub renamed_rows : {I K T : Type 0} {eq : I → I → Bool} {S : State T} {old mid new : List (I × Session K T)}
    {k t : I} {s : Session K T} → AreSessionsKept S eq (held_in eq old) → IsChange eq old mid k (Some s) None
    → IsChange eq mid new t None (Some s) → lookup (eq t) old ≡ None → AreSessionsKept S eq (held_in eq new)
renamed_rows {eq = eq} {old = old} {k = k} {t} {s} kept c d free = renamed_kept kept c.laws k t (held_of s)
    (λ q. held_after d q ∙ ap (cond (eq t q) (Some (held_of s))) (held_after c q)) (held_there c)
    (λ q same. cc (lookup_congr eq c.laws.congr old t q same))

-- a value that is set leaves each other box
pub set_beside : {T : Type 0} {S R : State T} → IsSound S → HasNoReferences S → (a b : GenerationalPointer) (v old : T)
    → Meets S (SetValue a v) (Old old) R → a.id ≢ b.id → value_in R b ≡ value_in S b
set_beside sound plain a b v old m other =
    let saw = (sets _ _ _ m).0 in
    let to = seen_reached _ _ _ saw in
    others_left _ _ m a b (seen_store _ _ sound (ap is_some saw)) (λ ne. same_value _ _ _ _ sound m _
    (λ same. ne (reach_apart _ plain _ _ to.0 to.1 (sym same))) tt) other

-- a row whose entries are unchanged
pub same_held : {K T : Type 0} (s w : Session K T) → w.entries.entries ≡ s.entries.entries
    → ◌≡◌ {A = Option RowNames} (Some (held_of w)) (Some (held_of s))
same_held s w entries j = Some (record { names = entry_names (entries j); stores = stores_of (entries j) })

-- ==== entries that are removed, one after the other

module _ {T : Type 0} where
  pub lost_both : {S R Q : State T} {ns ms : List Name} → HasLost S ns R → HasLost R ms Q → HasLost S (ns ++ ms) Q
  lost_both {ns = ns} {ms} a b = record {
    simple = b.simple;
    number = b.number ∙ a.number;
    next = b.next ∙ a.next;
    owners = λ o. b.owners o ∙ a.owners o;
    given = λ n is. b.given n (a.given n is);
    ended = λ c listed. ⊎_elim (λ late. b.ended c late)
        (λ early. b.others c early ∙ a.ended c (first (name_of c) listed early)) (cases_Bool (among ms (name_of c)));
    others = λ c out. let parts = neither (name_of c) out in b.others c parts.1 ∙ a.others c parts.0;
  }
    where
      first : (n : Name) → among (ns ++ ms) n ≡ true → among ms n ≡ false → among ns n ≡ true
      first n listed early = grind (arith, list_any-append)

      neither : (n : Name) → among (ns ++ ms) n ≡ false → (among ns n ≡ false) × (among ms n ≡ false)
      neither n out = grind (arith, list_any-append)

-- a name of a list of different ones isn't among those before it
pub front_apart : (names : List Name) (i : ℕ) (n : Name) → IsDistinct is_name names → slice_get names i ≡ Some n
    → among (take i names) n ≡ false
unfolding IsDistinct
front_apart [] i n once is = cc
front_apart (m ∷ names) zero n once is = refl
front_apart (m ∷ names) (suc i) n once is =
    let apart = each_apart names i once.0 is in
    grind (arith, front_apart names i n once.1 is, name_same n m, name_here n)
  where
    each_apart : (ms : List Name) (j : ℕ) → AllByRecursion (λ x. is_name m x ≡ false) ms → slice_get ms j ≡ Some n
        → is_name m n ≡ false
    each_apart [] j all at = cc
    each_apart (x ∷ ms) zero all at = ap (is_name m) (sym (same_Some x n at)) ∙ all.0
    each_apart (x ∷ ms) (suc j) all at = each_apart ms j all.1 at

pub take_one : {X : Type 0} (xs : List X) (i : ℕ) (x : X) → slice_get xs i ≡ Some x → take (i + 1) xs ≡ take i xs ++ x ∷ []
take_one xs i x is = rw add-one (take-suc xs i x (slice_get_within xs i x is)
    ∙ ap (λ v. take i xs ++ v ∷ []) (get_or_from_slice_get xs i x x is))

-- an index of a session's entries: the name there, and that it isn't among those before it
module _ {K T : Type 0} (es : List (K × Entry T)) (once : IsDistinct is_name (entry_names es)) (i : ℕ) (p : K × Entry T)
    (at : slice_get es i ≡ Some p) where
  name_at : slice_get (entry_names es) i ≡ Some (name_of (pointer_in p.1))
  name_at = slice_get-map (λ (x : K × Entry T). name_of (pointer_in x.1)) es i
      ∙ ap (option_map (λ (x : K × Entry T). name_of (pointer_in x.1))) at

  named_there : among (entry_names es) (name_of (pointer_in p.1)) ≡ true
  named_there = among_at (entry_names es) i (name_of (pointer_in p.1)) name_at
    where
      among_at : (ns : List Name) (j : ℕ) (n : Name) → slice_get ns j ≡ Some n → among ns n ≡ true
      among_at [] j n is = cc
      among_at (m ∷ ns) zero n is = grind (arith, name_here n, same_Some m n is)
      among_at (m ∷ ns) (suc j) n is = grind (arith, among_at ns j n is)

  module _ {S R : State T} (live : AreLive S es) (lost : HasLost S (take i (entry_names es)) R) where
    -- it still shows something
    pub still_shows : (own : (pointer_in p.1).id.store ≡ S.number) → ShowsSomething R (pointer_in p.1)
    still_shows own = ap is_some (lost.others (pointer_in p.1)
        (front_apart (entry_names es) i (name_of (pointer_in p.1)) once name_at))
        ∙ live.live (pointer_in p.1) named_there own

    -- and with it those up to it have ended
    pub lost_next : {Q : State T} → HasLost R (name_of (pointer_in p.1) ∷ []) Q → HasLost S (take (i + 1) (entry_names es)) Q
    lost_next {Q} one = subst (λ ns. HasLost S ns Q)
        (sym (take_one (entry_names es) i (name_of (pointer_in p.1)) name_at)) (lost_both lost one)

-- the store of each entry
pub store_at : {K T : Type 0} (P : ℕ → Type 0) (es : List (K × Entry T)) (i : ℕ) (p : K × Entry T)
    → AllByRecursion P (stores_of es) → slice_get es i ≡ Some p → P (pointer_in p.1).id.store
store_at P [] i p all at = cc
store_at P (x ∷ es) zero p all at = subst (λ q. P (pointer_in q.1).id.store) (same_Some x p at) all.0
store_at P (x ∷ es) (suc i) p all at = store_at P es i p all.1 at

-- ==== where values were put

module _ {T : Type 0} where
  -- what is said of the locations stays so when more are added
  pub still_told : (number : ℕ) (s t : SiteState) (old : List Location) (e : Entry T) (l : Location)
      → s.told ≤ t.told → t.all ≡ s.all → told_in s ≡ old → told_at number old e ≡ Some l
      → told_at number (told_in t) e ≡ Some l
  still_told number s t old e l le same was is = both (nat_eq e.store number) refl
    where
      both : (b : Bool) → nat_eq e.store number ≡ b → told_at number (told_in t) e ≡ Some l
      both true own = rw own (told_more s t e.site l le same
          (rw was (sym (ap (λ b. cond b (slice_get old e.site) None) own) ∙ is)))
      both false other = absurd (none-some l (sym (ap (λ b. cond b (slice_get old e.site) None) other) ∙ is))

  pub tells_here : (number : ℕ) (s : SiteState) (e : Entry T) (here : Location) → e.store ≡ number → e.site < s.told
      → IsAt s.all e.site here → TellsLocation (told_at number (told_in s) e) here
  tells_here number s e here own lt at =
      (at.kept, rw (own, nat_eq_equiv.refl number) (told_here s e.site at.kept lt at.there), at.alike)

  pub put_number : {S R : State T} (v : T) (l : Location) (e : Entry T) → HasPut S v l e R → e.store ≡ S.number
  put_number {S} {R} v l e put = ap (λ i. i.store) put.2 ∙ (made_new S R (Make None v l) put.0 put.1).0

  pub put_shown : {S R : State T} (v : T) (l : Location) (e : Entry T) → HasPut S v l e R
      → value_in R (pointer_in e) ≡ Some v
  put_shown {S} {R} v l e put = same_id_sees R (pointer_in e) put.0 put.2
      ∙ (meets_tells S R (Make None v l) (Made put.0) put.1).1

  pub put_fresh : {S R : State T} (v : T) (l : Location) (e : Entry T) → HasPut S v l e R
      → IsGiven S (name_of (pointer_in e)) → ⊥
  put_fresh {S} {R} v l e put was = true≢false (sym (subst (λ id. IsGiven S (name_in id)) put.2 was)
      ∙ (made_new S R (Make None v l) put.0 put.1).1)

  pub put_given : {S R : State T} (v : T) (l : Location) (e : Entry T) → HasPut S v l e R
      → IsGiven R (name_of (pointer_in e))
  put_given {S} {R} v l e put = subst (λ id. IsGiven R (name_in id)) (sym put.2)
      (made_new S R (Make None v l) put.0 put.1).2

  pub put_beside : {S R : State T} → IsSound S → (v : T) (l : Location) (e f : Entry T) → HasPut S v l e R
      → IsOther e f → value_in R (pointer_in f) ≡ value_in S (pointer_in f)
  put_beside {S} {R} s v l e f put other = others_left _ _ put.1 put.0 (pointer_in f)
      (made_new S R (Make None v l) put.0 put.1).0
      (same_value S R (Make None v l) (Made put.0) s put.1 (pointer_in f) tt) (λ same. other (put.2 ∙ same))

  pub put_leaves : {S R : State T} → IsSound S → (v : T) (l : Location) (e f : Entry T) → HasPut S v l e R
      → IsGiven S (name_of (pointer_in f)) → value_in R (pointer_in f) ≡ value_in S (pointer_in f)
  put_leaves {S} {R} s v l e f put was = same_value S R (Make None v l) (Made put.0) s put.1 (pointer_in f) tt
      (given_other S R (Make None v l) (Made put.0) (pointer_in f) put.1 was)

  pub put_apart : {S R : State T} (v : T) (l : Location) (e f : Entry T) → HasPut S v l e R
      → IsGiven S (name_of (pointer_in f)) → name_of (pointer_in e) ≢ name_of (pointer_in f)
  put_apart {S} {R} v l e f put was is = put_fresh v l e put (subst (IsGiven S) (sym is) was)

-- one name is among a list of it
pub one_named : (n : Name) → among (n ∷ []) n ≡ true
one_named n = grind (arith, name_here n)

-- when one entry's value was removed, each other entry is unchanged
pub lost_beside : {T : Type 0} {S R : State T} → IsSound S → (e f : Entry T) → (pointer_in e).id.store ≡ S.number
    → HasLost S (name_of (pointer_in e) ∷ []) R → IsOther e f → value_in R (pointer_in f) ≡ value_in S (pointer_in f)
lost_beside {S = S} {R} s e f own lost other = ⊎_elim
    (λ listed. ended_both listed)
    (λ out. lost.others (pointer_in f) out) (cases_Bool (among (name_of (pointer_in e) ∷ []) (name_of (pointer_in f))))
  where
    ended_both : among (name_of (pointer_in e) ∷ []) (name_of (pointer_in f)) ≡ true
        → value_in R (pointer_in f) ≡ value_in S (pointer_in f)
    ended_both listed = lost.ended (pointer_in f) listed ∙ sym (by_option (value_in S (pointer_in f)) (λ none. none)
        (λ v is. absurd (other (grind (
          arith,
          own,
          seen_store S (pointer_in f) s (ap is_some is),
          name_same (name_of (pointer_in f)) (name_of (pointer_in e)),
          listed,
        )))))

-- A closure's calls on the values of rows, from the first row on.
use Rattle.std.proofs.Common.{◌≡◌, ◌⊎◌, option_map, zero, ◌<◌, ◌≤◌, ◌+◌, ◌∙◌, ◌++◌, ℕ, suc, List, [], ◌∷◌, length, map, refl, ap, sym, arith, add-one, add-zero, if◌then◌else◌, slice_get, subst, min, ⊎_elim, zero-add, ◌≢◌, Option, Some, None, nat_eq, slice_index_or, slice_set, take, drop}
use Rattle.std.proofs.lemmas.List.{length-map, length-set, get_or-set_other, get_or-set_same, length-take-le, map-append, append_assoc, append-nil, take_all, take_more, take_more_set, drop-set-lt}
use Rattle.std.proofs.Math.Nat.{min-le_left, min-le_right}
use Rattle.std.proofs.Math.Seq.{drop-cons}
use Rattle.std.proofs.lemmas.Option.{same_Some}
use Rattle.std.specs.List.{FoldsTo, cons_option, filter_map}
use Rattle.handles.specs.declared.handle.Handle.{Handle}
use Rattle.handles.specs.declared.map.Row.{Row}
use Rattle.handles.specs.declared.map.Row.TheVariants.{Held, Vacant}
use Rattle.handles.specs.Handles.{at_slot, IsSame, pointer_in}
use Rattle.handles.specs.Maps.{both, both_held, count, held, listed, listed_from, MapState, row_at, value_of}
use Rattle.handles.specs.Visits.{AreChanged}
use Rattle.handles.proofs.Maps.{count_set, counted_first, listed_count, listed_every, listed_shown}

-- ==== calls, one after another

module _ {F H V : Type 0} (call : F → H → V → V → F → Type 0) where
  folds_more : (p : F) (xs ys : List (H × V × V)) (q r : F)
      → FoldsTo (λ p c q. call p c.0 c.1 c.2 q) p xs q → FoldsTo (λ p c q. call p c.0 c.1 c.2 q) q ys r
      → FoldsTo (λ p c q. call p c.0 c.1 c.2 q) p (xs ++ ys) r
  folds_more p [] ys q r one two = rw one two
  folds_more p (x ∷ xs) ys q r one two = (one.0, one.1, folds_more one.0 xs ys q r one.2 two)

  pub none_changed : (f : F) → AreChanged call f [] [] f
  none_changed f = record { changes = []; before = refl; after = refl; called = refl }

  pub one_changed_so : (f : F) (h : H) (v w : V) (g : F) → call f h v w g
      → AreChanged call f ((h, v) ∷ []) ((h, w) ∷ []) g
  one_changed_so f h v w g called =
      record { changes = (h, v, w) ∷ []; before = refl; after = refl; called = (g, called, refl) }

  pub more_changed : (f g h : F) (old new more left : List (H × V)) → AreChanged call f old new g
      → AreChanged call g more left h → AreChanged call f (old ++ more) (new ++ left) h
  more_changed f g h old new more left one two = record {
    changes = one.changes ++ two.changes;
    before = rw (← one.before, ← two.before) (map-append (λ (c : H × V × V). (c.0, c.1)) one.changes two.changes);
    after = rw (← one.after, ← two.after) (map-append (λ (c : H × V × V). (c.0, c.2)) one.changes two.changes);
    called = folds_more f one.changes two.changes g h one.called two.called;
  }

  pub changed_length : (f g : F) (old new : List (H × V)) → AreChanged call f old new g → length new ≡ length old
  changed_length f g old new changed = ap length (sym changed.after)
      ∙ (length-map changed.changes _ ∙ (sym (length-map changed.changes _) ∙ ap length changed.before))

-- what lists have at a slot and past it, if they are the same from there on
pub first_left : {X : Type 0} (xs ys : List X) (slot : ℕ) (d : X) → slot < length xs → slot < length ys
    → drop slot xs ≡ drop slot ys
    → (slice_index_or xs slot d ≡ slice_index_or ys slot d) × (drop (slot + 1) xs ≡ drop (slot + 1) ys)
first_left xs ys slot d in_xs in_ys same =
    let so : slice_index_or xs slot d ∷ drop (suc slot) xs ≡ slice_index_or ys slot d ∷ drop (suc slot) ys =
    sym (drop-cons xs slot d in_xs) ∙ (same ∙ drop-cons ys slot d in_ys) in
    (ap (λ l. slice_index_or l 0 d) so, rw (add-one slot) (ap (λ l. drop 1 l) so))

-- ==== rows, from the first one on

next : (slot n : ℕ) → slot + suc n ≡ slot + 1 + n
next slot n = omega arith

module _ {V : Type 0} (T K : Type 0) where
  listed_more : (number slot : ℕ) (rows more : List (Row V))
      → listed_from {T = T} {K = K} number slot (rows ++ more)
      ≡ listed_from number slot rows ++ listed_from number (slot + length rows) more
  listed_more number slot [] more = rw (add-zero slot) refl
  listed_more number slot (Vacant ∷ rows) more =
      rw (next slot (length rows)) (listed_more number (slot + 1) rows more)
  listed_more number slot (Held site generation v ∷ rows) more =
      rw (next slot (length rows)) (ap (λ l. (at_slot number slot site generation, v) ∷ l) (listed_more number (slot + 1) rows more))

  module _ {F : Type 0} (call : F → Handle T K → V → V → F → Type 0) (number : ℕ) where
    -- the rows before a slot were visited, and those from there on weren't
    pub record AreVisited (first : F) (old : List (Row V)) (now : F) (rows : List (Row V)) (slot : ℕ) : Type 0 where
      pub changed : AreChanged call first (listed_from number 0 (take slot old)) (listed_from number 0 (take slot rows)) now
      pub left : drop slot rows ≡ drop slot old
      pub same : length rows ≡ length old

    pub visits_begun : (f : F) (rows : List (Row V)) → AreVisited f rows f rows 0
    visits_begun f rows = record { changed = none_changed call f; left = refl; same = refl }

    -- the row of the slot is visited, and is another then
    pub visits_more : {first now next : F} {old rows : List (Row V)} {slot : ℕ} (d r : Row V)
        → AreVisited first old now rows slot → slot < length rows
        → AreChanged call now (listed_from number slot (slice_index_or rows slot d ∷ [])) (listed_from number slot (r ∷ [])) next
        → AreVisited first old next (slice_set rows slot r) (slot + 1)
    visits_more {first} {now} {next} {old} {rows} {slot} d r so lt changed = record {
      changed = rw (row_taken, take_more_set rows slot r lt, listed_more number 0 (take slot old) (slice_index_or old slot d ∷ []), listed_more number 0 (take slot rows) (r ∷ []), before_old, before_new, ← row.0)
          (more_changed call first now next _ _ _ _ so.changed changed);
      left = drop-set-lt (slot + 1) rows slot r (omega arith) ∙ row.1;
      same = length-set rows slot r ∙ so.same;
    }
      where
        lt_old : slot < length old
        lt_old = omega (arith, lt, so.same)

        row : (slice_index_or rows slot d ≡ slice_index_or old slot d) × (drop (slot + 1) rows ≡ drop (slot + 1) old)
        row = first_left rows old slot d lt lt_old so.left

        row_taken : take (slot + 1) old ≡ take slot old ++ slice_index_or old slot d ∷ []
        row_taken = take_more old slot d lt_old

        before_old : 0 + length (take slot old) ≡ slot
        before_old = omega (arith, length-take-le slot old (omega (arith, lt_old)))

        before_new : 0 + length (take slot rows) ≡ slot
        before_new = omega (arith, length-take-le slot rows (omega (arith, lt)))

    -- all rows were visited
    pub visits_done : {first last : F} {old rows : List (Row V)} {slot : ℕ} → AreVisited first old last rows slot
        → length old ≤ slot → AreChanged call first (listed_from number 0 old) (listed_from number 0 rows) last
    visits_done {first} {last} {old} {rows} {slot} so le =
        rw (← take_all slot old le, ← take_all slot rows (omega (arith, le, so.same))) so.changed

    pub visits_count : {first last : F} {old rows : List (Row V)} {slot : ℕ} → AreVisited first old last rows slot
        → length old ≤ slot → count rows ≡ count old
    visits_count {first} {last} {old} {rows} so le = sym (listed_count T K number 0 rows)
        ∙ (changed_length call first last _ _ (visits_done so le) ∙ listed_count T K number 0 old)

-- ==== rows of two maps, from the first ones on

-- what holds nothing has no value
pub vacant_none : {V : Type 0} (r : Row V) (g : ℕ) → ((s n : ℕ) (v : V) → r ≡ Held s n v → ⊥) → held r g ≡ None
vacant_none Vacant g vacant = refl
vacant_none (Held s n v) g vacant = absurd (vacant s n v refl)

module _ {V W T K : Type 0} (number slot : ℕ) where
  -- rows of two generations, or of which one holds nothing
  pub both_apart : (r : Row V) (q : Row W) → ((g : ℕ) → held r g ≡ None ⊎ held q g ≡ None)
      → both_held {T = T} {K = K} number slot r q ≡ []
  both_apart Vacant q apart = refl
  both_apart (Held site generation v) q apart = grind (arith, apart generation)

  both_listed_so : (site generation more own : ℕ) (v : V) (w : W) → generation ≡ own
      → both_held {T = T} {K = K} number slot (Held site generation v) (Held more own w)
      ≡ (at_slot number slot site generation, (v, w)) ∷ []
  both_listed_so site generation more own v w same = grind (arith, same)

  module _ {F : Type 0} (call : F → Handle T K → V × W → V × W → F → Type 0) where
    pub neither : (f : F) (r : Row V) (q : Row W) → ((g : ℕ) → held r g ≡ None ⊎ held q g ≡ None)
        → AreChanged call f (both_held number slot r q) (both_held number slot r q) f
    neither f r q apart = rw (both_apart r q apart) (none_changed call f)

    pub both_called : {f f' : F} (site generation more own : ℕ) (v v' : V) (w w' : W)
        → call f (at_slot number slot site generation) (v, w) (v', w') f' → generation ≡ own
        → AreChanged call f (both_held number slot (Held site generation v) (Held more own w))
        (both_held number slot (Held site generation v') (Held more own w')) f'
    both_called {f} {f'} site generation more own v v' w w' called same =
        rw (both_listed_so site generation more own v w same, both_listed_so site generation more own v' w' same)
        (one_changed_so call f (at_slot number slot site generation) (v, w) (v', w') f' called)

cons_more : {X : Type 0} (o : Option X) (xs : List X) → cons_option o xs ≡ cons_option o [] ++ xs
cons_more None xs = refl
cons_more (Some x) xs = refl

pub fewest : {n : ℕ} (a b : ℕ) → n ≡ min a b → (n ≤ a) × (n ≤ b)
fewest a b is = (rw is (min-le_left a b), rw is (min-le_right a b))

same_or_not : (a b : ℕ) → (a ≡ b) ⊎ (a ≢ b)
same_or_not a b = grind arith

pub counted_set : {V : Type 0} (rows : List (Row V)) (slot : ℕ) (r : Row V) → slot < length rows
    → count (r ∷ []) ≡ count (row_at rows slot ∷ []) → count (slice_set rows slot r) ≡ count rows
counted_set rows slot r lt same = omega (
  arith,
  count_set rows slot r lt,
  counted_first r [],
  counted_first (row_at rows slot) [],
  same,
)

pub any_default : {X : Type 0} (xs : List X) (i : ℕ) (d e : X) → i < length xs
    → slice_index_or xs i d ≡ slice_index_or xs i e
any_default [] i d e lt = absurd (omega (arith, lt))
any_default (x ∷ xs) zero d e lt = refl
any_default (x ∷ xs) (suc i) d e lt = any_default xs i d e (omega (arith, lt))

pub two_generations : {V W : Type 0} (s m g h : ℕ) (v : V) (w : W) (n : ℕ) → (g ≡ h → ⊥)
    → (held (Held s g v) n ≡ None) ⊎ (held (Held m h w) n ≡ None)
two_generations s m g h v w n ne = grind (arith, ne)

module _ {W : Type 0} (T K : Type 0) (number : ℕ) where
  seen_at : (slot site generation : ℕ) (all : List (Row W)) (q : Row W) → row_at all slot ≡ q
      → value_of {T = T} {K = K} (record { number = number; rows = all }) (at_slot number slot site generation) ≡ held q generation
  seen_at slot site generation all q is = grind (arith, is)

module _ {V W : Type 0} (T K : Type 0) (number : ℕ) where
  abbrev both_rows : ℕ → List (Row V) → List (Row W) → List (Handle T K × (V × W))
  both_rows slot [] others = []
  both_rows slot (r ∷ rows) [] = []
  both_rows slot (r ∷ rows) (q ∷ others) = both_held number slot r q ++ both_rows (slot + 1) rows others

  no_rows : (slot : ℕ) (rows : List (Row V)) → both_rows slot rows [] ≡ []
  no_rows slot [] = refl
  no_rows slot (r ∷ rows) = refl

  both_more : (slot : ℕ) (rows : List (Row V)) (others : List (Row W)) (r : Row V) (q : Row W)
      → length rows ≡ length others
      → both_rows slot (rows ++ r ∷ []) (others ++ q ∷ [])
      ≡ both_rows slot rows others ++ both_held number (slot + length rows) r q
  both_more slot [] [] r q same = rw (add-zero slot, append-nil (both_held number slot r q)) refl
  both_more slot [] (x ∷ others) r q same = absurd (omega (arith, same))
  both_more slot (x ∷ rows) [] r q same = absurd (omega (arith, same))
  both_more slot (x ∷ rows) (y ∷ others) r q same =
      rw (next slot (length rows), both_more (slot + 1) rows others r q (omega (arith, same)))
      (sym (append_assoc (both_held number slot x y) (both_rows (slot + 1) rows others) (both_held number (slot + 1 + length rows) r q)))

  both_within : (n slot : ℕ) (rows : List (Row V)) (others : List (Row W)) → min (length rows) (length others) ≤ n
      → both_rows slot (take n rows) (take n others) ≡ both_rows slot rows others
  both_within zero slot [] others le = refl
  both_within zero slot (r ∷ rows) [] le = refl
  both_within zero slot (r ∷ rows) (q ∷ others) le = absurd (omega (arith, le))
  both_within (suc n) slot [] others le = refl
  both_within (suc n) slot (r ∷ rows) [] le = refl
  both_within (suc n) slot (r ∷ rows) (q ∷ others) le =
      ap (λ l. both_held number slot r q ++ l) (both_within n (slot + 1) rows others (omega (arith, le)))

  -- they are the handles that have a value in both maps
  both_listed : (slot : ℕ) (rows : List (Row V)) (all others : List (Row W))
      → ((k : ℕ) → row_at all (slot + k) ≡ row_at others k)
      → filter_map (λ (p : Handle T K × V). option_map (λ w. (p.0, (p.1, w))) (value_of (record { number = number; rows = all }) p.0))
      (listed_from number slot rows) ≡ both_rows slot rows others
  both_listed slot [] all others same = refl
  both_listed slot (Vacant ∷ rows) all [] same =
      both_listed (slot + 1) rows all [] (λ k. rw (← next slot k) (same (suc k))) ∙ no_rows (slot + 1) rows
  both_listed slot (Vacant ∷ rows) all (q ∷ others) same =
      both_listed (slot + 1) rows all others (λ k. rw (← next slot k) (same (suc k)))
  both_listed slot (Held site generation v ∷ rows) all [] same =
      rw (seen_at T K number slot site generation all Vacant (rw (add-zero slot) at (same 0)))
      (both_listed (slot + 1) rows all [] (λ k. rw (← next slot k) (same (suc k))) ∙ no_rows (slot + 1) rows)
  both_listed slot (Held site generation v ∷ rows) all (q ∷ others) same =
      rw (
        seen_at T K number slot site generation all q (rw (add-zero slot) at (same 0)),
        both_listed (slot + 1) rows all others (λ k. rw (← next slot k) (same (suc k))),
      ) (cons_more (option_map _ (held q generation)) (both_rows (slot + 1) rows others))

  module _ {F : Type 0} (call : F → Handle T K → V × W → V × W → F → Type 0) where
    -- the rows before a slot were visited, and those from there on weren't
    pub record AreBothVisited (first : F) (rows : List (Row V)) (others : List (Row W))
        (now : F) (left : List (Row V)) (right : List (Row W)) (slot : ℕ) : Type 0 where
      pub changed : AreChanged call first (both_rows 0 (take slot rows) (take slot others))
          (both_rows 0 (take slot left) (take slot right)) now
      pub drops : (drop slot left ≡ drop slot rows) × (drop slot right ≡ drop slot others)
      pub lengths : (length left ≡ length rows) × (length right ≡ length others)
      pub one : (k g : ℕ) → held (row_at others k) g ≡ None → held (row_at left k) g ≡ held (row_at rows k) g
      pub two : (k g : ℕ) → held (row_at rows k) g ≡ None → held (row_at right k) g ≡ held (row_at others k) g
      pub counts : (count left ≡ count rows) × (count right ≡ count others)

    pub both_begun : (f : F) (rows : List (Row V)) (others : List (Row W)) → AreBothVisited f rows others f rows others 0
    both_begun f rows others = record {
      changed = none_changed call f;
      drops = (refl, refl);
      lengths = (refl, refl);
      one = λ k g none. refl;
      two = λ k g none. refl;
      counts = (refl, refl);
    }

    pub both_visits_more : {first now next : F} {rows left : List (Row V)} {others right : List (Row W)} {slot : ℕ}
        (r : Row V) (q : Row W) → AreBothVisited first rows others now left right slot
        → slot < length left → slot < length right
        → AreChanged call now (both_held number slot (row_at left slot) (row_at right slot)) (both_held number slot r q) next
        → ((g : ℕ) → held (row_at right slot) g ≡ None → held r g ≡ held (row_at left slot) g)
        → ((g : ℕ) → held (row_at left slot) g ≡ None → held q g ≡ held (row_at right slot) g)
        → (count (r ∷ []) ≡ count (row_at left slot ∷ [])) × (count (q ∷ []) ≡ count (row_at right slot ∷ []))
        → AreBothVisited first rows others next (slice_set left slot r) (slice_set right slot q) (slot + 1)
    both_visits_more {first} {now} {next} {rows} {left} {others} {right} {slot} r q so lt lt' changed one two counts = record {
      changed = rw (
        take_more rows slot Vacant in_rows,
        take_more others slot Vacant in_others,
        take_more_set left slot r lt,
        take_more_set right slot q lt',
        ← own.0,
        ← his.0,
        both_more 0 (take slot rows) (take slot others) (row_at left slot) (row_at right slot) (taken rows others in_rows in_others),
        both_more 0 (take slot left) (take slot right) r q (taken left right lt lt'),
        at_slot_of rows in_rows,
        at_slot_of left lt,
      ) (more_changed call first now next _ _ _ _ so.changed changed);
      drops = (
        drop-set-lt (slot + 1) left slot r (omega arith) ∙ own.1,
        drop-set-lt (slot + 1) right slot q (omega arith) ∙ his.1,
      );
      lengths = (length-set left slot r ∙ so.lengths.0, length-set right slot q ∙ so.lengths.1);
      one = λ k g none. ⊎_elim (λ is. here_one k g is none)
          (λ ne. rw (get_or-set_other left slot k r Vacant ne) (so.one k g none)) (same_or_not k slot);
      two = λ k g none. ⊎_elim (λ is. here_two k g is none)
          (λ ne. rw (get_or-set_other right slot k q Vacant ne) (so.two k g none)) (same_or_not k slot);
      counts = (
        counted_set left slot r lt counts.0 ∙ so.counts.0,
        counted_set right slot q lt' counts.1 ∙ so.counts.1,
      );
    }
      where
        in_rows : slot < length rows
        in_rows = omega (arith, lt, so.lengths.0)

        in_others : slot < length others
        in_others = omega (arith, lt', so.lengths.1)

        own : (row_at left slot ≡ row_at rows slot) × (drop (slot + 1) left ≡ drop (slot + 1) rows)
        own = first_left left rows slot Vacant lt in_rows so.drops.0

        his : (row_at right slot ≡ row_at others slot) × (drop (slot + 1) right ≡ drop (slot + 1) others)
        his = first_left right others slot Vacant lt' in_others so.drops.1

        here_one : (k g : ℕ) → k ≡ slot → held (row_at others k) g ≡ None
            → held (row_at (slice_set left slot r) k) g ≡ held (row_at rows k) g
        here_one k g is none = ap (λ x. held x g) (ap (row_at (slice_set left slot r)) is ∙ get_or-set_same left slot r Vacant lt)
            ∙ (one g (ap (λ x. held x g) (his.0 ∙ ap (row_at others) (sym is)) ∙ none)
            ∙ ap (λ x. held x g) (own.0 ∙ ap (row_at rows) (sym is)))

        here_two : (k g : ℕ) → k ≡ slot → held (row_at rows k) g ≡ None
            → held (row_at (slice_set right slot q) k) g ≡ held (row_at others k) g
        here_two k g is none = ap (λ x. held x g) (ap (row_at (slice_set right slot q)) is ∙ get_or-set_same right slot q Vacant lt')
            ∙ (two g (ap (λ x. held x g) (own.0 ∙ ap (row_at rows) (sym is)) ∙ none)
            ∙ ap (λ x. held x g) (his.0 ∙ ap (row_at others) (sym is)))

        taken : {X Y : Type 0} (xs : List X) (ys : List Y) → slot < length xs → slot < length ys
            → length (take slot xs) ≡ length (take slot ys)
        taken xs ys in_xs in_ys = length-take-le slot xs (omega (arith, in_xs)) ∙ sym (length-take-le slot ys (omega (arith, in_ys)))

        at_slot_of : {X : Type 0} (xs : List X) → slot < length xs → 0 + length (take slot xs) ≡ slot
        at_slot_of xs in_xs = omega (arith, length-take-le slot xs (omega (arith, in_xs)))

    pub both_done : {first last : F} {rows left : List (Row V)} {others right : List (Row W)} {slot : ℕ}
        → AreBothVisited first rows others last left right slot → min (length rows) (length others) ≤ slot
        → AreChanged call first (both (record { number = number; rows = rows }) (record { number = number; rows = others }))
        (both (record { number = number; rows = left }) (record { number = number; rows = right })) last
    both_done {first} {last} {rows} {left} {others} {right} {slot} so le = rw (
      both_listed 0 rows others others (λ k. rw (zero-add k) refl),
      both_listed 0 left right right (λ k. rw (zero-add k) refl),
      ← both_within slot 0 rows others le,
      ← both_within slot 0 left right (rw (← so.lengths.0, ← so.lengths.1) at le),
    ) so.changed

  -- maps of two numbers have no handle in common
  pub none_in_both : (m : MapState V) (n : MapState W) → m.number ≢ n.number → both {T = T} {K = K} m n ≡ []
  none_in_both m n ne = none_listed 0 m.rows
    where
      none_listed : (slot : ℕ) (rows : List (Row V))
          → filter_map {Y = Handle T K × (V × W)} (λ (p : Handle T K × V). option_map (λ w. (p.0, (p.1, w))) (value_of n p.0)) (listed_from m.number slot rows) ≡ []
      none_listed slot [] = refl
      none_listed slot (Vacant ∷ rows) = none_listed (slot + 1) rows
      none_listed slot (Held site generation v ∷ rows) = grind (arith, ne, none_listed (slot + 1) rows)

-- ==== what remains of each handle's value

module _ {F H V : Type 0} (call : F → H → V → V → F → Type 0) where
  folded_at : (changes : List (H × V × V)) (p last : F) → FoldsTo (λ p c q. call p c.0 c.1 c.2 q) p changes last
      → (i : ℕ) (h : H) (v : V) → slice_get {X = H × V} (map (λ (c : H × V × V). (c.0, c.1)) changes) i ≡ Some (h, v)
      → (a b : F) × (w : V) × call a h v w b × (slice_get {X = H × V} (map (λ (c : H × V × V). (c.0, c.2)) changes) i ≡ Some (h, w))
  folded_at [] p last so i h v is = cc
  folded_at (c ∷ changes) p last so zero h v is =
      subst (λ (x : H × V). (a b : F) × (w : V) × call a x.0 x.1 w b × (◌≡◌ {A = Option (H × V)} (Some (c.0, c.2)) (Some (x.0, w))))
      (same_Some (c.0, c.1) (h, v) is) (p, so.0, c.2, so.1, refl)
  folded_at (c ∷ changes) p last so (suc i) h v is = folded_at changes so.0 last so.2 i h v is

  folded_back : (changes : List (H × V × V)) (i : ℕ) (h : H) (w : V)
      → slice_get {X = H × V} (map (λ (c : H × V × V). (c.0, c.2)) changes) i ≡ Some (h, w)
      → (v : V) × (slice_get {X = H × V} (map (λ (c : H × V × V). (c.0, c.1)) changes) i ≡ Some (h, v))
  folded_back [] i h w is = cc
  folded_back (c ∷ changes) zero h w is =
      subst (λ (x : H × V). (v : V) × (◌≡◌ {A = Option (H × V)} (Some (c.0, c.1)) (Some (x.0, v)))) (same_Some (c.0, c.2) (h, w) is) (c.1, refl)
  folded_back (c ∷ changes) (suc i) h w is = folded_back changes i h w is

  -- a value that was there was changed by one call, and each that is there was there before
  pub changed_at : {f last : F} {old new : List (H × V)} → AreChanged call f old new last
      → (i : ℕ) (h : H) (v : V) → slice_get old i ≡ Some (h, v)
      → (a b : F) × (w : V) × call a h v w b × (slice_get new i ≡ Some (h, w))
  changed_at {f} {last} {old} {new} so i h v is =
      rw (← so.after) (folded_at so.changes f last so.called i h v (rw (so.before) is))

  pub changed_back : {f last : F} {old new : List (H × V)} → AreChanged call f old new last
      → (i : ℕ) (h : H) (w : V) → slice_get new i ≡ Some (h, w) → (v : V) × (slice_get old i ≡ Some (h, v))
  changed_back {f} {last} {old} {new} so i h w is =
      rw (← so.before) (folded_back so.changes i h w (rw (so.after) is))

-- what a test finds in a list, and where it was
module _ {X Y : Type 0} (test : X → Option Y) where
  found_first : (x : X) (xs : List X) (o : Option Y) → test x ≡ o
      → filter_map test (x ∷ xs) ≡ cons_option o (filter_map test xs)
  found_first x xs o is = rw is refl

  filter_at : (xs : List X) (i : ℕ) (x : X) (y : Y) → slice_get xs i ≡ Some x → test x ≡ Some y
      → (j : ℕ) × (slice_get (filter_map test xs) j ≡ Some y)
  filter_at [] i x y is finds = cc
  filter_at (z ∷ xs) zero x y is finds = (0, rw (ap test (same_Some z x is) ∙ finds) refl)
  filter_at (z ∷ xs) (suc i) x y is finds = past (test z) (filter_at xs i x y is finds)
    where
      past : (o : Option Y) → (j : ℕ) × (slice_get (filter_map test xs) j ≡ Some y)
          → (j : ℕ) × (slice_get (cons_option o (filter_map test xs)) j ≡ Some y)
      past None rest = rest
      past (Some u) rest = (suc rest.0, rest.1)

  filter_back : (xs : List X) (j : ℕ) (y : Y) → slice_get (filter_map test xs) j ≡ Some y
      → (i : ℕ) × (x : X) × (slice_get xs i ≡ Some x) × (test x ≡ Some y)
  filter_back [] j y is = cc
  filter_back (z ∷ xs) j y is = first (test z) refl is
      (λ k at. let it = filter_back xs k y at in (suc it.0, it.1, it.2, it.3))
    where
      first : (o : Option Y) → test z ≡ o → slice_get (cons_option o (filter_map test xs)) j ≡ Some y
          → ((k : ℕ) → slice_get (filter_map test xs) k ≡ Some y
          → (i : ℕ) × (x : X) × (slice_get (z ∷ xs) i ≡ Some x) × (test x ≡ Some y))
          → (i : ℕ) × (x : X) × (slice_get (z ∷ xs) i ≡ Some x) × (test x ≡ Some y)
      first None finds at more = more j at
      first (Some u) finds at more = here j at
        where
          here : (k : ℕ) → slice_get (u ∷ filter_map test xs) k ≡ Some y
              → (i : ℕ) × (x : X) × (slice_get (z ∷ xs) i ≡ Some x) × (test x ≡ Some y)
          here zero at = (0, z, refl, finds ∙ at)
          here (suc k) at = more k at

module _ {T K : Type 0} where
  same_value_of : {X : Type 0} (m : MapState X) (a b : Handle T K) → IsSame a b → value_of m a ≡ value_of m b
  same_value_of m a b same = ap (λ id. if nat_eq id.store m.number then held (row_at m.rows id.slot) id.generation else None) same

module _ {V W T K : Type 0} where
  pairing : MapState W → Handle T K × V → Option (Handle T K × (V × W))
  pairing n p = option_map (λ w. (p.0, (p.1, w))) (value_of n p.0)

  -- a handle that has a value in each of two maps, and one that is listed with both
  pub both_every : (m : MapState V) (n : MapState W) (h : Handle T K) (v : V) (w : W) → value_of m h ≡ Some v
      → value_of n h ≡ Some w
      → (j : ℕ) × (f : Handle T K) × (slice_get (both m n) j ≡ Some (f, (v, w))) × IsSame f h
  unfolding pairing
  both_every m n h v w one two =
      let at = listed_every m h v one in
      let there = filter_at (pairing n) (listed m) at.0 (at.1, v) (at.1, (v, w)) at.2
      (ap (option_map (λ x. (at.1, (v, x)))) (same_value_of n at.1 h at.3 ∙ two)) in
      (there.0, at.1, there.1, at.3)

  pub both_shown : (m : MapState V) (n : MapState W) (j : ℕ) (h : Handle T K) (v : V) (w : W)
      → slice_get (both m n) j ≡ Some (h, (v, w)) → (value_of m h ≡ Some v) × (value_of n h ≡ Some w)
  unfolding pairing
  both_shown m n j h v w is =
      let at = filter_back (pairing n) (listed m) j (h, (v, w)) is in paired at.0 at.1 at.2 (value_of n at.1.0) refl at.3
    where
      paired : (i : ℕ) (p : Handle T K × V) → slice_get (listed m) i ≡ Some p → (o : Option W) → value_of n p.0 ≡ o
          → option_map {U = Handle T K × (V × W)} (λ x. (p.0, (p.1, x))) o ≡ Some (h, (v, w)) → (value_of m h ≡ Some v) × (value_of n h ≡ Some w)
      paired i p at None seen finds = cc
      paired i p at (Some x) seen finds =
          subst (λ (q : Handle T K × (V × W)). (value_of m q.0 ≡ Some q.1.0) × (value_of n q.0 ≡ Some q.1.1))
          (same_Some (p.0, (p.1, x)) (h, (v, w)) finds) (listed_shown m i p.0 p.1 at, seen)

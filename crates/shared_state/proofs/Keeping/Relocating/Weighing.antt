-- Histories: what they count, say and leave.
pub mod Common
use Rattle.std.specs.Prelude.{map as list_map, T as IsTrue}
use Rattle.std.specs.FinMap as map
use Rattle.generational_core.specs.Machine.Answer.{Reads, Writes}
use Rattle.generational_core.specs.declared.steps.StepCall.TheVariants as call
use Rattle.generational_core.specs.declared.rows.BaseRow.TheVariants as row
unfoldable pub use Common.*

-- ==== the borrows of finite maps of cells, added up, and those in an answer and a reply

abbrev pub given_by : {T : Type 0} → Answer T → ℕ
given_by (Reads g) = 1
given_by (Writes g v) = 1
given_by _ = 0

abbrev pub lent_in : Option StepReply → ℕ
lent_in None = 0
lent_in (Some r) = lent_by r

module _ {T : Type 0} where
  -- the borrows at a cell that may be there
  abbrev pub borrows_there : Option (Cell T) → ℕ
  borrows_there None = 0
  borrows_there (Some c) = borrow_count_of c

  -- a name below those of a list isn't found in it
  below_less : (x y : Name) (es : List (Name × Cell T)) → name_cmp x y ≡ Less
      → map.Entries.below_all name_cmp y es ≡ true → map.Entries.below_all name_cmp x es ≡ true
  below_less x y [] p h = refl
  below_less x y (e ∷ es) p h = grind (arith, below_less x y es p, name_total.trans x y e.0 p)

  find_below : (n : Name) (es : List (Name × Cell T))
      → map.Entries.below_all name_cmp n es ≡ true → map.find name_cmp n es ≡ None
  find_below n [] h = refl
  find_below n (e ∷ es) h = grind (arith, find_below n es)

  put_weighs : (k : Name) (v : Cell T) (es : List (Name × Cell T))
      → IsTrue (map.is_sorted name_cmp es)
      → borrow_count_in (map.put name_cmp k v es) + borrows_there (map.find name_cmp k es)
      ≡ borrow_count_in es + borrow_count_of v
  put_weighs k v [] h = omega arith
  put_weighs k v (e ∷ es) h =
      grind (arith, put_weighs k v es, find_below k es, below_less k e.0 es)

  kept_weighs : (p : Name → Bool) (es : List (Name × Cell T))
      → borrow_count_in (map.Entries.where_key name_cmp p es) ≤ borrow_count_in es
  kept_weighs p [] = omega arith
  kept_weighs p (e ∷ es) = grind (arith, kept_weighs p es)

  sorted_kept : (m : NameMap (Cell T)) (p : Name → Bool)
      → IsTrue (map.is_sorted name_cmp (map.Entries.where_key name_cmp p (map.entries m)))
  sorted_kept m p =
      map.Entries.is_sorted-where_key name_cmp p (map.entries m) (map.entries_sorted m)

  retained : (m : NameMap (Cell T)) (p : Name → Bool) → map.retain_keys m p
      ≡ map.from_sorted (map.Entries.where_key name_cmp p (map.entries m))
  retained m p =
      let alike = λ (q x : Name) (e : name_cmp q x ≡ Equal). ap p (sym (name_exact q x e)) in
      map.same_map name_total name_exact _ _ (λ q.
      map.get-retain_keys m p q (alike q)
      ∙ sym (map.get-from_sorted name_cmp _ q (sorted_kept m p)
      ∙ (map.Entries.find-where_key name_cmp p q (alike q) (map.entries m)
      ∙ ap (λ o. cond (p q) o None) (sym (map.get-entries m q)))))

  -- cells that are removed have at least as many borrows as are lost
  pub borrows_retained : (m : NameMap (Cell T)) (p : Name → Bool)
      → borrow_count_in (map.entries (map.retain_keys m p)) ≤ borrow_count_in (map.entries m)
  borrows_retained m p =
      let same = ap (λ n. borrow_count_in (map.entries n)) (retained m p)
      ∙ ap borrow_count_in (map.entries-from_sorted name_cmp _ (sorted_kept m p)) in
      let fewer = kept_weighs p (map.entries m) in
      omega arith

  -- a cell instead of another, or of none
  pub borrows_inserted : (m : NameMap (Cell T)) (k : Name) (v : Cell T)
      → borrow_count_in (map.entries (map.insert m k v)) + borrows_there (map.get m k)
      ≡ borrow_count_in (map.entries m) + borrow_count_of v
  borrows_inserted m k v =
      let put = ap borrow_count_in (map.entries-insert name_total m k v) in
      let got = ap borrows_there (map.get-entries m k) in
      let weighs = put_weighs k v (map.entries m) (map.entries_sorted m) in
      omega arith

  pub borrows_changed : (m : NameMap (Cell T)) (k : Name) (f : Cell T → Cell T) (x : Cell T)
      → map.get m k ≡ Some x
      → borrow_count_in (map.entries (change m k f)) + borrow_count_of x
      ≡ borrow_count_in (map.entries m) + borrow_count_of (f x)
  unfolding change
  borrows_changed m k f x is =
      let put = ap (λ o. borrow_count_in (map.entries (change_if m k f o))) is in
      let got = ap borrows_there is in
      let weighs = borrows_inserted m k (f x) in
      omega arith

-- ==== how many borrows are active after a call

-- a list without a ticket that is in it is shorter
fewer : (t : ℕ) (rs : List Borrow)
    → length (filter (λ (r : Borrow). not (nat_eq r.ticket t)) rs) ≤ length rs
fewer t [] = omega arith
fewer t (r ∷ rs) = grind (arith, fewer t rs)

shorter : (t : ℕ) (rs : List Borrow) → list_any (λ (r : Borrow). nat_eq r.ticket t) rs ≡ true
    → length (filter (λ (r : Borrow). not (nat_eq r.ticket t)) rs) + 1 ≤ length rs
shorter t [] h = absurd (true≢false (sym h))
shorter t (r ∷ rs) h = grind (arith, shorter t rs, fewer t rs)

module _ {T : Type 0} where
  -- how many borrows come with a filling
  abbrev pub comes_with : Filling T → ℕ
  comes_with (Reader v readers l) = 1
  comes_with (Writer v l) = 1
  comes_with _ = 0

  abbrev pub size : Content T → ℕ
  size c = length (tickets_of (Some c))

  pub size_here : (v : T) (rs : List Borrow) → size (Here v rs) ≡ length rs
  size_here v rs = length-map rs (λ r. r.ticket)

  -- another content in a cell
  pub filled_borrows : (S : State T) (m : Name) (c old : Content T) → content_at S m ≡ Some old
      → borrows (fill S m c) + size old ≡ borrows S + size c
  filled_borrows S m c old had = at (map.get S.cells m) refl had
    where
      at : (o : Option (Cell T)) → map.get S.cells m ≡ o → content_of o ≡ Some old
          → borrows (fill S m c) + size old ≡ borrows S + size c
      at None is h = absurd cc
      at (Some x) is h = let weighs = borrows_changed S.cells m (refill c) x is in grind arith

  -- how the size of a content that is filled again changes
  pub refilled : (S : State T) (k : Filling T)
      → size (new_content S k) ≤ size (old_content k) + comes_with k
  refilled S (Reader v rs l) =
      let more = length-append rs (next_borrow S l ∷ []) in
      let one = size_here v rs in let two = size_here v (rs ++ next_borrow S l ∷ []) in omega arith
  refilled S (Leave v rs g) =
      let one = size_here v rs in let two = size_here v (without g.ticket rs) in
      let less = fewer g.ticket rs in omega arith
  refilled S k = omega arith

  pub swept_fewer : (cells : NameMap (Cell T))
      → borrow_count_in (map.entries (sweep cells)) ≤ borrow_count_in (map.entries cells)
  unfolding sweep
  swept_fewer cells =
      borrows_retained cells (λ n. not (is_shared (map.get cells n)) || is_named cells n)

  without_fewer : (cells : NameMap (Cell T)) (names : List Name)
      → borrow_count_in (map.entries (take_away cells names)) ≤ borrow_count_in (map.entries cells)
  unfolding take_away
  without_fewer cells names =
      borrows_retained cells (λ n. is_shared (map.get cells n) || not (among names n))

  pub end_fewer : (S : State T) (names : List Name) → borrows (close S names) ≤ borrows S
  end_fewer S names = grind (arith, without_fewer, swept_fewer)

  pub without_stand : (S : State T) (n : Name) (t : ℕ) (c : Option (Content T)) → content_at S n ≡ c
      → has_reader c t ≡ true → borrows (remove_reader S n t c) + 1 ≤ borrows S
  without_stand S n t (Some (Here v rs)) is h =
      let left = filter (λ (r : Borrow). not (nat_eq r.ticket t)) rs in
      let weighs = filled_borrows S n (Here v left) (Here v rs) is in
      let less = shorter t rs h in
      let one = size_here v rs in let two = size_here v left in
      omega arith
  without_stand S n t c is h = absurd (true≢false (sym h))

-- ==== how many borrows are active after any call of the machine, and which answers change nothing

module _ {T : Type 0} where
  -- a known writer is the only borrow
  written_at : (S : State T) (n : Name) (t : ℕ) (v : T) (c : Option (Content T))
      → content_at S n ≡ c → has_writer c t ≡ true → borrows (fill S n (Here v [])) + 1 ≡ borrows S
  written_at S n t v (Some (Lent w)) is h =
      let weighs = filled_borrows S n (Here v []) (Lent w) is in omega arith
  written_at S n t v c is h = absurd (true≢false (sym h))

  pub written_stand : (S : State T) (g : Guard) (v : T) → knows_writer S g ≡ true
      → borrows (fill S g.cell (Here v [])) + 1 ≡ borrows S
  written_stand S g v known = written_at S g.cell g.ticket v _ refl (and_parts _ _ known).1

  -- ---- what a change of cells adds

  abbrev comes : Change T → ℕ
  comes (Fill n k) = comes_with k
  comes _ = 0

  grows : (S : State T) (a : Action T) (f : NewNames) (next : ℕ) (c : Change T)
      → IsLawful S a f next c → borrows (after S f c) ≤ borrows S + comes c
  grows S a f next Stay law = omega arith
  grows S a f next (Birth cell) law =
      let weighs = borrows_inserted S.cells f.first cell in let none = ap length law.1.1 in omega arith
  grows S a f next (Pair v l) law =
      let cell : Cell T = Shared (Here v []) l in
      let one = borrows_inserted S.cells f.first cell in
      let two = borrows_inserted (map.insert S.cells f.first cell) f.second (Ref f.first l) in omega arith
  grows S a f next (Fill n k) law =
      let weighs = filled_borrows S n (new_content S k) (old_content k) law.0 in
      let size = refilled S k in omega arith
  grows S a f next (Close names) law = let fewer = end_fewer S names in omega arith
  grows S a f next (Turn ref old new l) law =
      let swept = swept_fewer (map.insert S.cells ref (Ref new l)) in
      let weighs = borrows_inserted S.cells ref (Ref new l) in omega arith

  -- a call that borrows, and takes a ticket, gives a borrow
  lent : (S : State T) (a : Action T) (f : NewNames) (n : Name) → Borrows S a n
      → (act S a f).1.next ≡ S.next + 1 → given_by (act S a f).0 ≡ 1
  lent S a f n borrows is = grind arith

  gives : (S : State T) (a : Action T) (f : NewNames) (next : ℕ) (c : Change T)
      → (act S a f).1.next ≡ next → IsLawful S a f next c → comes c ≤ given_by (act S a f).0
  gives S a f next c is law = grind (arith, lent)

  act_leaves : (S : State T) (a : Action T) (f : NewNames) → leaves (act S a f).0 ≡ true
      → (act S a f).1 ≡ S
  act_leaves S (Make o v l) f left = grind arith
  act_leaves S a f left = grind arith

  act_counts : (S : State T) (a : Action T) (f : NewNames)
      → borrows (act S a f).1 ≤ borrows S + given_by (act S a f).0
  act_counts S a f =
      let h = act_leads S a f in
      let now = ap borrows h.is in
      let grown = grows S a f h.next h.change h.lawful in
      let given = gives S a f h.next h.change (ap (λ (X : State T). X.next) h.is) h.lawful in omega arith

  pub meets_fine : (S R : State T) (a : Action T) (answer : Answer T) → Meets S a answer R
      → (borrows R ≤ borrows S + given_by answer) × (leaves answer ≡ true → R ≡ S)
  meets_fine S R a answer = meets_each S R a answer
      (λ out. (borrows out.1 ≤ borrows S + given_by out.0) × (leaves out.0 ≡ true → out.1 ≡ S))
      (λ refused. (omega arith, λ _. refl)) (λ f new. (act_counts S a f, act_leaves S a f))

-- ==== in a sound state a ticket identifies a reader, or a writer

-- the one name that passes is found
one_found : (test : Name → Bool) (m : Name) → ((n : Name) → test n ≡ true → n ≡ m)
    → (names : List Name) → list_any test names ≡ true → first_name test names ≡ Some m
one_found test m one [] h = absurd (true≢false (sym h))
one_found test m one (n ∷ names) h = grind (arith, one_found test m one names, one n)

-- a reader's ticket is found
ticket_stands : (t : ℕ) (rs : List Borrow) → list_any (λ (r : Borrow). nat_eq r.ticket t) rs ≡ true
    → list_any (nat_eq t) (list_map (λ (r : Borrow). r.ticket) rs) ≡ true
ticket_stands t [] h = h
ticket_stands t (r ∷ rs) h = grind (arith, ticket_stands t rs)

-- a test that only a ticket of a cell's content passes finds that cell
found : (P : Plain) (m : Name) (t : ℕ) (has : Option (Content (Unit {0})) → Bool)
    → ((c : Option (Content (Unit {0}))) → has c ≡ true → list_any (nat_eq t) (tickets_of c) ≡ true)
    → IsSound P → has (content_at P m) ≡ true
    → first_name (λ n. has (content_at P n)) (map.keys P.cells) ≡ Some m
found P m t has stands s h =
    let live : (o : Option (Cell (Unit {0}))) → has (content_of o) ≡ true → is_some o ≡ true =
    λ o e. grind (arith, stands) in
    one_found (λ n. has (content_at P n)) m
    (λ n e. s.one_cell n m t (stands (content_at P n) e) (stands (content_at P m) h)) (map.keys P.cells)
    (passes_both (λ n. has (content_at P n)) (eq_by_cmp name_cmp m)
    (λ n e. ap (λ k. has (content_at P k)) (sym (key_same by_name m n e)) ∙ h) (map.keys P.cells)
    (sym (map.contains_key-keys P.cells m) ∙ live (map.get P.cells m) h))

pub reader_found : (P : Plain) (m : Name) (t : ℕ) → IsSound P
    → has_reader (content_at P m) t ≡ true → reader_cell P t ≡ Some m
reader_found P m t = found P m t (λ c. has_reader c t) (λ c h. grind (arith, ticket_stands t))

pub writer_found : (P : Plain) (m : Name) (t : ℕ) → IsSound P
    → has_writer (content_at P m) t ≡ true → writer_cell P t ≡ Some m
writer_found P m t = found P m t (λ c. has_writer c t) (λ c h. grind arith)

-- ==== the test whether a name is new says what it should

-- what passes the test is new, and what is new passes it
pub new_from : (P : Plain) (n : Name) → is_new P n ≡ true → IsNew P n
new_from P n h = grind arith

pub new_to : (P : Plain) (n : Name) → IsNew P n → is_new P n ≡ true
new_to P n new = grind arith

-- the same of the names that a making takes
pub are_from : (P : Plain) (a : Action (Unit {0})) (f : NewNames) → are_new P a f ≡ true
    → AreNew P a f
are_from P (MakeShared o v l) f h =
    let both = and_parts (is_new P f.first) _ h in
    (new_from P f.first both.0, new_from _ f.second both.1)
are_from P a f h = grind (arith, new_from)

-- what a recorded reply gives is new, if it passes
pub gives_from : (P : Plain) (a : Action (Unit {0})) (r : StepReply) → gives_new P a r ≡ true
    → GivesNew P a r
gives_from P a r h = grind (arith, are_from)

-- ==== what makings return

module _ {T : Type 0} where
  -- the box of a new reference determines the cell that it names
  pub target_made : (S : State T) (o : Option OwnerName) (n m : Name) (l : Location)
      → target_of (make S o n (Ref m l) l).1 (box_of S.number n l) ≡ Some (id_of S.number m)
  target_made S o n m l = grind (arith, get-insert_here by_name S.cells n (Ref m l))

  -- the box of a new shared value names its cell
  pub shared_named : (S R : State T) (o : Option OwnerName) (v : T) (l : Location)
      (r : Result GenerationalPointer (Refusal T)) → Meets S (MakeShared o v l) (make_answer r) R
      → IfOk r (λ b. is_some (target_of R b) ≡ true)
  shared_named S R o v l (Err e) m = tt
  shared_named S R o v l (Ok b) (inl m) =
      let cell : Cell T = Shared (Here v []) l in
      grind (arith, target_made (add_cell S m.0.first cell) o m.0.second m.0.first l)
  shared_named S R o v l (Ok b) (inr m) = absurd cc

  -- a value that may be set and can't be written isn't there
  pub set_drops : (S : State T) (b : GenerationalPointer) (v : T)
      → is_ready S (call.Set b) ≡ true → can_write S b ≡ false
      → Meets S (SetValue b v) (BorrowRefused (Dropped b.created_at)) S
  unfolding refusal_to_write
  set_drops S b v ready written = inl (no_names, tt, grind arith)

-- ==== a reply is the same as itself, and is recorded the same with and without values

same_text : (xs : List ℕ) → pointwise nat_eq xs xs ≡ true
same_text [] = refl
same_text (x ∷ xs) = grind (arith, same_text xs)

location_refl : (l : Location) → same_location l l ≡ true
location_refl l = grind (arith, same_text)

reply_refl : (r : StepReply) → same_reply r r ≡ true
reply_refl r = grind (arith, location_refl)

-- the reply that is recorded is recorded
pub recorded_is : (o : Option StepReply) (r : StepReply) → o ≡ Some r → is_recorded o r ≡ true
recorded_is o r is = ap (λ p. is_recorded p r) is ∙ reply_refl r

-- a state without its values has the targets of its references
plain_target : {T : Type 0} (R : State T) (b : GenerationalPointer)
    → target_of (plain R) b ≡ target_of R b
plain_target R b = grind (arith, get_bare)

pub plain_reply : {T : Type 0} (R : State T) (a : Action T) (answer : Answer T)
    → recorded_reply (plain R) (plain_call a) (plain_answer answer) ≡ recorded_reply R a answer
plain_reply R a answer = grind (arith, plain_target)

-- ==== bases: what their rows leave unchanged, and what they count of the steps that were trimmed

-- rows say nothing of the number, nor of the first generation
rows_keep : (rows : List BaseRow) (P : Plain)
    → ((read_rows P rows).number ≡ P.number) × ((read_rows P rows).start ≡ P.start)
rows_keep [] P = (refl, refl)
rows_keep (r ∷ rows) P =
    let rest = rows_keep rows (read_row P r) in grind arith

pub told_number : (base : BaseState) → (plain_of base).number ≡ base.number
told_number base = (rows_keep base.rows _).0

pub told_start : (base : BaseState) → (plain_of base).start ≡ 1
told_start base = (rows_keep base.rows _).1

module _ (base : BaseState) (steps : List Step) (t : TrimmedSteps)
    (counts : t ≡ counts_of base steps) where
  pub trimmed_within : all_trimmed base + length steps < 2 ^ 64
      → t.made + t.lent + t.changed + t.refused < 2 ^ 64
  trimmed_within within = rw counts (let all = all_kinds steps in omega arith)

  pub trims_of : {number next peak : ℕ} {rows : List BaseRow} (new : BaseState)
      → new ≡ record {
        number = number;
        next = next;
        peak = peak;
        made = t.made;
        lent = t.lent;
        changed = t.changed;
        refused = t.refused;
        rows = rows;
      } → Trims base steps new
  trims_of new is kind = grind arith

-- a checkpoint, with the states before and after it as in contracts
pub checkpoint_seen : {T : Type 0} {S : State T} {old : SharedState T} (log after : LogState)
    {trimmed : ℕ} → shared S log ≡ old → after.steps ≡ [] → plain_of after.bases.base ≡ plain S
    → after.bases.base.rows ≡ rows_of S → Trims log.bases.base log.steps after.bases.base
    → trimmed ≡ all_trimmed after.bases.base → IsCheckpoint old (shared S after) trimmed
checkpoint_seen {S = S} log after {trimmed = trimmed} view none told rows trims counted =
    rw (← view) (assumption)

-- ==== rows of an earlier state are such of each state that comes after, and a state's own rows are

-- ---- a step later

module _ (P Q : Plain) (a : Action (Unit {0})) (answer : Answer (Unit {0})) (sound : IsSound P)
    (met : Meets P a answer Q) where
  made_still : (n : Name) (l : Location) → WasMadeAt P n l → WasMadeAt Q n l
  made_still n l was =
      let ended = meets_ended P Q a answer met n in
      let stays = meets_location P Q a answer n sound met in
      (meets_given P Q a answer met n was.0, λ c is. grind (arith, was))

  row_still : (r : BaseRow) → IsPast P r → IsPast Q r
  row_still (row.Value id l) was = made_still _ l was
  row_still (row.Shared id l) was = made_still _ l was
  row_still r was = tt

  pub past_still : (rows : List BaseRow) → ArePast P rows → ArePast Q rows
  past_still [] all = tt
  past_still (r ∷ rows) all = (row_still r all.0, past_still rows all.1)

-- ---- a state's own rows

module _ (P : Plain) where
  readers_past : (id : GenerationalBoxId) (readers : List Borrow)
      → ArePast P (list_map (reader_row id) readers)
  readers_past id [] = tt
  readers_past id (b ∷ readers) = (tt, readers_past id readers)

  borrows_past : {T : Type 0} (id : GenerationalBoxId) (c : Content T) → ArePast P (borrow_rows id c)
  borrows_past id c = grind (arith, readers_past)

module _ {T : Type 0} (S : State T) (sound : IsSound (plain S)) where
  made_here : (n : Name) (c : Cell T) (l : Location) → map.get S.cells n ≡ Some c
      → location_of (Some (bare_cell c)) ≡ Some l → WasMadeAt (plain S) n l
  made_here n c l there made =
      let bare = get_bare_cell S.cells n ∙ ap (option_map bare_cell) there in
      (sound.given n (ap is_some bare), λ b is. ap location_of (sym is ∙ bare) ∙ made)

  cell_past : (number : ℕ) (n : Name) (c : Option (Cell T)) → map.get S.cells n ≡ c
      → ArePast (plain S) (cell_rows number n c)
  cell_past number n None there = tt
  cell_past number n (Some (Value c l)) there =
      (made_here n (Value c l) l there refl, borrows_past (plain S) (id_of number n) c)
  cell_past number n (Some (Shared c l)) there =
      (made_here n (Shared c l) l there refl, borrows_past (plain S) (id_of number n) c)
  cell_past number n (Some (Ref m l)) there = (tt, tt)

  slots_past : (number : ℕ) (slots : List (ℕ × ℕ))
      → ArePast (plain S) (slot_rows number S.cells slots)
  slots_past number [] = tt
  slots_past number (e ∷ slots) =
      let last : Name = record { slot = e.0; generation = e.1 } in (
        tt,
        both_past (plain S) _ _ (cell_past number last (map.get S.cells last) refl)
            (slots_past number slots),
      )

  pub own_past : ArePast (plain S) (rows_of S)
  own_past =
      both_past (plain S) _ _ (slots_past S.number (map.entries (slots_of S)))
      (owners_past (plain S) S.number (map.entries S.owners))

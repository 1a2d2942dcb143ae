-- One session carries another, by other names and as numbers: so its replies depend on the calls alone. And
-- its owners' lists have each name once.
pub mod Calls
use Rattle.std.specs.FinMap as map
use Rattle.std.specs.FinSet as set
use Rattle.generational_sessions.specs.declared.calls.Call.TheVariants as call
use Rattle.generational_errors.specs.declared.error.StoreError.TheVariants as error
unfoldable pub use Calls.*

-- ==== one state carries another: by other names, without values, and as numbers

-- ---- sessions that carry others: calls come to the same, ids aside, and new names are numbered after
-- the old ones

-- ---- tables

module _ {T : Type 0} (f : Name → Name) (d : ℕ) (Knows : Name → Type 0) (store : ℕ) where
  abbrev moved : Held T → Held T
  moved = rename_held f d store

  abbrev rename_reply : Answer T → Answer T
  rename_reply = rename_answer f d (λ (v : T). v) store

  abbrev IsKnown : Held T → Type 0
  IsKnown = KnowsHeld Knows store

  -- a table is another one moved, of which all is known
  abbrev Tables : List (Held T) → List (Held T) → Type 0
  Tables t u = (t ≡ list_map moved u) × AllByRecursion IsKnown u

  -- a place that holds something else
  tables_set : (t u : List (Held T)) (p : ℕ) (x : Held T)
      → Tables t u → IsKnown x → Tables (slice_set t p (moved x)) (slice_set u p x)
  tables_set t u p x h k =
      (ap (λ t. slice_set t p (moved x)) h.0 ∙ sym (map-set moved u p x), known u p h.1)
    where
      known : (u : List (Held T)) (p : ℕ)
          → AllByRecursion IsKnown u → AllByRecursion IsKnown (slice_set u p x)
      known (y ∷ u) (suc p) h = (h.0, known u p h.1)
      known u p h = grind arith

  -- what an answer returns, what it consumes, and the reply
  tables_give : (t u : List (Held T)) (answer : Answer T) → Tables t u → KnowsAnswer
      Knows store answer → Tables (t ++ gives (rename_reply answer) ∷ []) (u ++ gives answer ∷ [])
  tables_give t u answer h k = grind (arith, map-append, all_push)

  tables_spend : (t u : List (Held T)) (x : Call T) (answer : Answer T)
      → Tables t u → Tables (spend x (rename_reply answer) t) (spend x answer u)
  tables_spend t u x answer h =
      let put = λ (p : ℕ). tables_set t u p Nothing h tt in grind (arith, put)

  said_moved : (x : Call T) (answer : Answer T)
      → erase (reply_of x (rename_reply answer)) ≡ erase (reply_of x answer)
  said_moved x answer = grind arith

-- ---- sessions that are carried

module _ {T : Type 0} {f : Name → Name} {d : ℕ} {Knows : Name → Type 0} {s a : SessionState T}
    (c : CarriesSession f d Knows s a) where
  abbrev store : ℕ
  store = a.state.number

  -- what the calls of two sessions come to
  abbrev Alike : Request T → Request T → Type 0
  Alike (Asks y) (Asks x) =
      (y ≡ rename_action f d (λ (v : T). v) store x) × KnowsCall Knows store x
  Alike (Tells y) (Tells x) = (erase y ≡ erase x) × (refusal_in y ≡ None)
  Alike (Swaps p h v old) (Swaps q g w was) = (p ≡ q) × (h ≡ rename_guard f d store g)
      × (v ≡ w) × (old ≡ was) × KnowsGuard Knows store g
  Alike _ _ = ⊥

  -- what a place holds is moved, and with it the box or the owner that is named
  place_moved : (p : ℕ) → (at_place s.table p ≡ rename_held f d store (at_place a.table p))
      × KnowsHeld Knows store (at_place a.table p)
  place_moved p = rw c.table (at a.table p c.known)
    where
      at : (u : List (Held T)) (p : ℕ) → AllByRecursion (KnowsHeld Knows store) u
          → (at_place (list_map (rename_held f d store) u) p ≡ rename_held f d store (at_place u p))
          × KnowsHeld Knows store (at_place u p)
      at (h ∷ u) (suc p) k = at u p k.1
      at u p k = grind arith

  held_moved : (x y : Held T) → x ≡ rename_held f d store y → KnowsHeld Knows store y
      → (box_held x ≡ option_map (rename_box f d store) (box_held y))
      × IfThere (box_held y) (KnowsBox Knows store)
      × (owner_held x ≡ option_map (shift_owner f d store) (owner_held y))
  held_moved x y is k = grind arith

  box_moved : (b : BoxAt T) → (box_in s b ≡ option_map (rename_box f d store) (box_in a b))
      × IfThere (box_in a b) (KnowsBox Knows store)
  box_moved (Place p) = let at = place_moved p in
      let held = held_moved _ _ at.0 at.1 in (held.0, held.1)
  box_moved (Foreign b) = let number = c.state.number in grind arith

  owner_moved : (p : ℕ) → owner_in s p ≡ option_map (shift_owner f d store) (owner_in a p)
  owner_moved p = let at = place_moved p in (held_moved _ _ at.0 at.1).2

  ruleset moves = (read_moved, write_moved, created_moved, same_box_moved)

  -- each call comes to the same
  pub asked_alike : (x : Call T) → Alike (ask s x) (ask a x)
  asked_alike (call.Replace p v) = let held = place_moved p in grind arith
  asked_alike (call.Release p) = let held = place_moved p in grind arith
  asked_alike (call.PointTo b e) = grind (arith, box_moved b, box_moved e)
  asked_alike (call.PtrEq b e) =
      grind (arith, box_moved b, box_moved e, same_box_moved f d c.state.apart store)
  asked_alike x = grind (arith, box_moved, owner_moved, moves)

  -- ---- after a call

  -- a reply by the table alone
  pub placed_alike : CarriesSession f d Knows (add_place s Nothing) (add_place a Nothing)
  placed_alike = grind (arith, map-append, all_push)

  -- another value for a writer
  pub swapped_alike : (p : ℕ) (g : Guard) (v : T) → KnowsGuard Knows store g
      → CarriesSession f d Knows (swap s p (rename_guard f d store g) v) (swap a p g v)
  swapped_alike p g v k =
      assumption (c, tables_set f d Knows store _ _ p (Writing g v) (c.table, c.known) k)

  -- an answer of the machine
  pub settled_alike : (x : Call T) (out was : Outcome T) → Matched f d
      (λ (v : T). v) Knows store out was → (erase (reply_of x out.0) ≡ erase (reply_of x was.0))
      × CarriesSession f d Knows (settle s x out).1 (settle a x was).1
  settled_alike x out was m =
      let t = tables_give f d Knows store _ _ was.0
      (tables_spend f d Knows store s.table a.table x was.0 (c.table, c.known)) m.known in (
        rw m.answer (said_moved f d Knows store x was.0),
        record { state = m.state; table = rw (m.same, m.answer) t.0; known = rw m.same t.1 },
      )

-- ---- a renaming that agrees with another one on the known names, when more are known

all_agree : {X Y : Type 0} (P Q : X → Type 0) (u w : X → Y) → ((x : X) → P x → (u x ≡ w x) × Q x)
    → (xs : List X) → AllByRecursion P xs → (list_map u xs ≡ list_map w xs) × AllByRecursion Q xs
all_agree P Q u w same [] k = (refl, tt)
all_agree P Q u w same (x ∷ xs) k = let here = same x k.0 in
    let rest = all_agree P Q u w same xs k.1 in (λ i. here.0 i ∷ rest.0 i, (here.1, rest.1))

module _ (f h : Name → Name) (d n : ℕ) (Knows More : Name → Type 0)
    (agree : (k : Name) → Knows k → (h k ≡ f k) × More k) where
  holding_agrees : (x : Option Ownership)
      → ((y : Ownership) → x ≡ Some y → AllByRecursion Knows y.names)
      → option_map (rename_ownership h d) x ≡ option_map (rename_ownership f d) x
  holding_agrees x k = grind (arith, all_agree)

  pub box_agrees : (b : GenerationalPointer)
      → KnowsBox Knows n b → rename_box h d n b ≡ rename_box f d n b
  box_agrees b h = grind arith

  held_agrees : {T : Type 0} (x : Held T) → KnowsHeld Knows n x
      → (rename_held h d n x ≡ rename_held f d n x) × KnowsHeld More n x
  held_agrees x k = grind arith

-- ---- another name

module _ (order : List Name) (y : Name) {n : ℕ} (is : n ≡ length order) where
  -- the names before keep their numbers, and the last number represents the new name
  pub older : (k : Name) → IsNumberBelow (length order) k
      → (name_numbered (order ++ y ∷ []) k ≡ name_numbered order k)
      × IsNumberBelow (length (order ++ y ∷ [])) k
  older k b = grind (arith, get_or_append_left, length_push)

  pub back : name_numbered (order ++ y ∷ []) (number n) ≡ y
  back = get_or_push order y (number n) n (sym is)

  pub last_known : IsNumberBelow (length (order ++ y ∷ [])) (number n)
  last_known = (refl, omega (arith, length_push order y))

-- a list carries one session into another; its names are those issued, and some not issued yet
pub record Reserves {T : Type 0} (s a : SessionState T)
    (d : ℕ) (order : List Name) (given_s given_a : Names) : Type 0 where
  pub carries : CarriesSession (name_numbered order) d (IsNumberBelow (length order)) s a
  pub names : AreListed order given_s
  pub numbers : AreNumbersBelow (length order) given_a
  pub more_s : (n : Name) → set.contains s.state.given n ≡ true → set.contains given_s n ≡ true
  pub more_a : (n : Name) → set.contains a.state.given n ≡ true → set.contains given_a n ≡ true

module _ {T : Type 0} {s a : SessionState T} {d : ℕ} {order : List Name} {given_s given_a : Names}
    (r : Reserves s a d order given_s given_a) (y : Name) (new : set.contains given_s y ≡ false)
    {n : ℕ} (is : n ≡ length order) where
  abbrev renamed : Name → Name
  renamed = name_numbered (order ++ y ∷ [])

  abbrev IsBelow : Name → Type 0
  IsBelow = IsNumberBelow (length order)

  -- no number below represents the new name, since the names of the list were issued
  other : (k : Name) → IsBelow k → name_numbered order k ≢ y
  other k b e = grind (arith, true≢false, list_any_at, name_here)

  -- another name, which was never issued, at the end of the list
  pub reserve : Reserves s a d
      (order ++ y ∷ []) (set.insert given_s y) (set.insert given_a (number n))
  reserve =
      let c = r.carries.state in
      let old = older order y is in
      let last = back order y is in
      let held = all_agree (KnowsHeld IsBelow a.state.number) _ _ _ (held_agrees (name_numbered order)
      renamed d a.state.number IsBelow _ old) a.table r.carries.known in
      record {
        carries = record {
          state = record {
            number = c.number;
            next = c.next;
            peak = c.peak;
            cells = record {
              at = λ k b. grind (
                arith,
                other,
                length_push,
                c.cells.at k,
                c.cells.leads k,
                c.cells.from y,
                c.cells.known k,
              );
              from = λ m e. let it = c.cells.from m e in
                  (it.0, (old it.0 it.1).1, (old it.0 it.1).0 ∙ it.2);
              known = λ k e. (old k (c.cells.known k e)).1;
              leads = λ k m l e. (old m (c.cells.leads k m l e)).1;
            };
            given = λ k b.
                grind (arith, length_push, c.given k, r.more_s y, r.more_a k, r.numbers.only k);
            owners = λ key. c.owners key ∙ sym (holding_agrees (name_numbered order) renamed d n
                IsBelow _ old (map.get a.state.owners key) (c.listed key));
            keys = c.keys;
            listed = λ key x e. (all_agree IsBelow _ renamed (name_numbered order)
                old x.names (c.listed key x e)).1;
            apart = λ j k bj bk e.
                grind (arith, length_push, other j, other k, c.apart j k, old j, old k);
          };
          table = r.carries.table ∙ sym held.0;
          known = held.1;
        };
        names = let count = set.len-insert name_total given_s y in
            grind (arith, length_push, contains-insert_name, list_any-append);
        numbers = let count = set.len-insert name_total given_a (number n) in
            grind (arith, length_push, contains-insert_name, name_here, name_apart, name_cases);
        more_s = λ m e. contains-insert_old by_name given_s y m (r.more_s m e);
        more_a = λ m e. contains-insert_old by_name given_a (number n) m (r.more_a m e);
      }

-- ---- each call of a session, and each run, has the numbered machine's replies, ids aside

-- a slot after those of all names in a list
slot_behind : (names : List Name)
    → (s : ℕ) × ((n : Name) → list_any (eq_by_cmp name_cmp n) names ≡ true → n.slot < s)
slot_behind [] = (0, λ n h. cc)
slot_behind (m ∷ names) =
    let rest = slot_behind names in
    (m.slot + rest.0 + 1, λ n h. grind (arith, rest.1 n, key_same by_name n m, or_cases))

module _ {T : Type 0} where
  -- there are always names that were never issued
  fresh_names : (S : State T) (call : Action T) → (new : NewNames) × AreFresh S call new
  fresh_names S call =
      let behind = slot_behind (set.items S.given) in
      let both : NewNames = record { first = number behind.0; second = number (behind.0 + 1) } in
      let one = behind.1 both.first in let two = behind.1 both.second in
      let given = set.contains-items S.given in (both, grind (arith, given))

  -- nothing changes, or names were issued
  abbrev Left : Bool → State T → Names → State T → Type 0
  Left true S given R = R ≡ S
  Left false S given R = R.given ≡ given

  -- a making fails whichever names it takes, or takes its names
  record Making (S : State T) (given : NewNames → Names) (out : NewNames → Outcome T) : Type 0 where
    left : (new : NewNames) → Left (is_refusal (out new).0) S (given new) (out new).1
    unnamed : (f h : NewNames) → is_refusal (out f).0 ≡ true → out f ≡ out h

  -- the names issued after a making
  abbrev given_after : State T → Action T → NewNames → Names
  given_after S (MakeShared o v l) new = set.insert (set.insert S.given new.first) new.second
  given_after S _ new = set.insert S.given new.first

  making : (S : State T) (call : Action T)
      → is_making call ≡ true → Making S (given_after S call) (act S call)
  making S call h = grind arith

  -- a call that fails doesn't depend on the names
  unnamed : (S : State T) (call : Action T) (f h : NewNames)
      → is_refusal (act S call f).0 ≡ true → act S call f ≡ act S call h
  unnamed S call f h k = grind arith

  -- a call wants memory or tickets, or does what the machine does with names that were never issued
  meets_fresh : {P : Type 0} (S R : State T) (call : Action T) (answer : Answer T)
      → ((e : StoreError) → want e ≡ Some e → ◌≡◌ {A = Outcome T} (answer, R) (Refused e, S) → P)
      → ((new : NewNames) → AreFresh S call new → (answer, R) ≡ act S call new → P)
      → Meets S call answer R → P
  meets_fresh {P} S R call answer wanting acting (inl m) = cond_both (takes_ticket
      (act S call m.0).0 && nat_eq S.next last_ticket) (Refused error.NumbersExhausted, S)
      (act S call m.0) (λ out. (answer, R) ≡ out → P) (λ _. wanting error.NumbersExhausted refl)
      (λ _ e. ⊎_elim (λ new. acting m.0 (new_fresh S call m.0 new) e) (λ same. let
      other = fresh_names S call in acting other.0 other.1 (e ∙ unnamed S call m.0 other.0 same.0))
      (takes_new S call m.0 (subst (λ (o : Outcome T). Takes S call o.0 m.0) e m.1))) m.2
  meets_fresh S R call answer wanting acting (inr m) =
      wanting error.OutOfMemory refl (λ i. (m.1 i, m.2 i))

  refusal_moved : (f : Name → Name) (d n : ℕ) (answer : Answer T)
      → is_refusal (rename_answer f d (λ (v : T). v) n answer) ≡ is_refusal answer
  refusal_moved f d n answer = grind arith

  -- an error has no names
  refusal_same : (f h : Name → Name) (d n : ℕ) (Knows : Name → Type 0) (answer : Answer T)
      → is_refusal answer ≡ true → KnowsAnswer Knows n answer
      × (rename_answer h d (λ (v : T). v) n answer ≡ rename_answer f d (λ (v : T). v) n answer)
  refusal_same f h d n Knows answer r = grind arith

  -- the replies are the same, ids aside, and the sessions after them match
  record StepMatches (s a : SessionReply T × SessionState T) : Type 0 where
    pub said : erase s.0 ≡ erase a.0
    pub after : Matches s.1 a.1

module _ {T : Type 0} {s a : SessionState T} (m : Matches s a) where
  abbrev mine : Action T → Action T
  mine action = rename_action (name_numbered m.order) m.difference (λ (v : T). v) a.state.number action

  -- two outcomes, carried by a list
  abbrev CarriedBy : List Name → Outcome T → Outcome T → Type 0
  CarriedBy order = Matched (name_numbered order)
      m.difference (λ (v : T). v) (IsNumberBelow (length order)) a.state.number

  abbrev Settled : Call T → Outcome T → Outcome T → Type 0
  Settled x out was = StepMatches (settle s x out) (settle a x was)

  start : Reserves s a m.difference m.order s.state.given a.state.given
  start = assumption m

  -- sessions that are carried match if the names of the list are those issued
  matched : {order : List Name} {given_s given_a : Names} {x y : SessionReply T × SessionState T}
      → Reserves s a m.difference order given_s given_a → (erase x.0 ≡ erase y.0)
      × CarriesSession (name_numbered order) m.difference (IsNumberBelow (length order)) x.1 y.1
      → x.1.state.given ≡ given_s → y.1.state.given ≡ given_a → StepMatches x y
  matched r both h k = grind arith

  -- a making, once the new names are numbered after the others
  making_step : (x : Call T) (call : Action T) (new : NewNames) (order : List Name)
      → is_making call ≡ true → is_making (mine call) ≡ true
      → Reserves s a m.difference order (given_after s.state (mine call) new)
      (given_after a.state call (next_numbers a))
      → KnowsCall (IsNumberBelow (length order)) a.state.number call
      → KnowsNewNames (IsNumberBelow (length order)) call (next_numbers a)
      → act s.state (rename_action (name_numbered order) m.difference (λ (v : T). v) a.state.number call)
      (rename_new_names (name_numbered order) (next_numbers a)) ≡ act s.state (mine call) new
      → Settled x (act s.state (mine call) new) (act a.state call (next_numbers a))
  making_step x call new order makes made r k kn e = at (is_refusal was.0) refl
      (rw (ap is_refusal h.answer
      ∙ refusal_moved (name_numbered order) m.difference a.state.number was.0)
      at ((making s.state (mine call) made).left new)) ((making a.state call makes).left _)
    where
      out : Outcome T
      out = act s.state (mine call) new

      was : Outcome T
      was = act a.state call (next_numbers a)

      h : CarriedBy order out was
      h = rw e at (act_matched r.carries.state call (next_numbers a) k kn)

      at : (b : Bool) → is_refusal was.0 ≡ b
          → Left b s.state (given_after s.state (mine call) new) out.1
          → Left b a.state (given_after a.state call (next_numbers a)) was.1 → Settled x out was
      at false is kept_s kept_a = matched r (settled_alike r.carries x out was h) kept_s kept_a
      at true is kept_s kept_a =
          let same = refusal_same (name_numbered m.order)
          (name_numbered order) m.difference a.state.number (IsNumberBelow (length m.order)) was.0 is in
          matched start (settled_alike m.carries x out was (record {
            answer = h.answer ∙ same.1;
            state = rw (kept_s, kept_a) m.carries.state;
            same = h.same;
            known = same.0;
          })) (rw kept_s refl) (rw kept_a refl)

  asks_step : (x : Call T) (action : Action T) (new : NewNames) → KnowsCall
      (IsNumberBelow (length m.order)) a.state.number action → AreFresh s.state (mine action) new
      → Settled x (act s.state (mine action) new) (act a.state action (next_numbers a))
  asks_step x (Make o v l) new k unused = let is = m.numbers.count in
      making_step x (Make o v l) new _ refl refl (reserve start new.first unused is) tt
      (last_known m.order new.first is) (rw (back m.order new.first is))
  asks_step x (Refer o b) new k unused =
      let is = m.numbers.count in let old = older m.order new.first is in
      let same = box_agrees (name_numbered m.order) _ m.difference a.state.number _ _ old b k in
      making_step x (Refer o b) new _ refl refl (reserve start new.first unused is)
      (λ own. (old _ (k own)).1) (last_known m.order new.first is)
      (rw (same, back m.order new.first is))
  asks_step x (MakeShared o v l) new k unused =
      let is = m.numbers.count in
      let one = m.order ++ new.first ∷ [] in
      let two : set.len a.state.given + 1 ≡ length one =
      omega (arith, length_push m.order new.first) in
      let r = reserve (reserve start new.first unused.0 is) new.second
      (contains-insert_apart by_name s.state.given new.first new.second
      (λ e. unused.2 (sym e)) ∙ unused.1) two in
      let old = older one new.second two _ (last_known m.order new.first is) in
      making_step x (MakeShared o v l) new _ refl refl r tt (old.1, last_known one new.second two)
      (rw (old.0, back m.order new.first is, back one new.second two))
  asks_step x action new k unused = matched start (settled_alike m.carries x _ _
      (act_matched m.carries.state action (next_numbers a) k tt)) ((act_start s.state
      (mine action) new).given refl) ((act_start a.state action (next_numbers a)).given refl)

  answered : (c : Call T) (q : Request T) {x : SessionReply T} {r : SessionState T}
      (out : SessionReply T × SessionState T) {e : Option StoreError} → (x, r) ≡ out
      → refusal_in out.0 ≡ e → StepMatches out (numbered a c q e)
      → StepMatches (x, r) (numbered a c q (refusal_in x))
  answered c q out is told step = grind arith

  asks_settled : (c : Call T) (x : SessionReply T) (r : SessionState T) (action : Action T)
      → ask s c ≡ Asks (mine action)
      → KnowsCall (IsNumberBelow (length m.order)) a.state.number action
      → Settles s c (Asks (mine action)) x r
      → StepMatches (x, r) (numbered a c (Asks action) (refusal_in x))
  asks_settled c x r action asked k step =
      meets_fresh s.state step.1 (mine action) step.0 (λ e is same.
      let after : List (Held T) → SessionReply T × SessionState T =
      λ table. (refusal c e, add_place (record s { table = table }) Held.Nothing) in
      let met : Meets s.state (mine action) (Refused e) s.state =
      subst (λ (o : Outcome T). Meets s.state (mine action) o.0 o.1) same step.2 in
      answered c (Asks action) (after s.table) (step.3 ∙ (ap (settle s c) same
      ∙ ap after (unspent s c (mine action) (Refused e) s.state asked met refl))) ((refusal_told c e).0 ∙ is)
      (matched start (refl, placed_alike m.carries) refl refl)) (λ new unused is.
      let out = act s.state (mine action) new in
      answered c (Asks action) (settle s c out) (step.3 ∙ ap (settle s c) is)
      ((tell c out.0).0 ∙ (act_says s.state (mine action) new unused).able)
      (asks_step c action new k unused)) step.2

  settles_step : (c : Call T) (x : SessionReply T) (r : SessionState T) (p q : Request T)
      → ask s c ≡ p → Alike m.carries p q → Settles s c p x r
      → StepMatches (x, r) (numbered a c q (refusal_in x))
  settles_step c x r (Asks y) (Asks action) asked alike step =
      asks_settled c x r action (rw alike.0 at asked) alike.1 (rw alike.0 at step)
  settles_step c x r (Tells y) (Tells z) asked alike step =
      answered c (Tells z) _ (λ i. (step.0 i, step.1 i)) alike.1
      (matched start (alike.0, placed_alike m.carries) refl refl)
  settles_step c x r (Swaps p h v old) (Swaps q g w was) asked alike step =
      let went = rw (alike.0, alike.1, alike.2, alike.3) at step in
      answered c (Swaps q g w was) _ (λ i. (went.0 i, went.1 i)) refl
      (matched start (refl, placed_alike (swapped_alike m.carries q g w alike.4)) refl refl)
  settles_step c x r p q asked alike step = absurd alike

module _ {T : Type 0} where
  -- so a run has the replies of the numbered machine, ids aside, and the sessions after it match
  pub run_answers : (calls : List (Call T)) (replies : List (SessionReply T))
      (s r a : SessionState T)
      → Matches s a → IsSound s.state → Run s calls replies r → AnswersAs a calls replies r
  run_answers (c ∷ calls) (x ∷ replies) s r a m sound run =
      let one = settles_step m c x run.0 _ _ refl (asked_alike m.carries c) run.1 in
      let rest = run_answers calls replies run.0 r (numbered_act a c (refusal_in x)).1
      one.after (session_sound s run.0 c x sound run.1) run.2 in
      record { same = λ i. one.said i ∷ rest.same i; matches = rest.matches }
  run_answers calls replies s r a m sound run = grind arith

  -- and one call is a run
  pub call_answers : (c : Call T) (x : SessionReply T) (s r a : SessionState T) → Matches s a
      → IsSound s.state → SessionStep s c x r → AnswersAs a (c ∷ []) (x ∷ []) r
  call_answers c x s r a m sound step = run_answers (c ∷ []) (x ∷ []) s r a m sound (r, step, refl)

  -- an owner of a session that matches is the other's
  pub owner_matched : {s a : SessionState T} (m : Matches s a) (key : ℕ)
      → is_some (map.get s.state.owners key) ≡ true → (k : ℕ)
      × (key + a.state.next ≡ k + s.state.next) × (is_some (map.get a.state.owners k) ≡ true)
  owner_matched {s} {a} m key live =
      let low = m.carries.state.keys key live in
      let next = m.carries.state.next in
      let k = key - m.difference in
      let same : key ≡ k + m.difference = omega arith in
      (k, omega arith, rw (same, m.carries.state.owners k, some_map) at live)

  -- a fresh store matches the numbered machine before any call
  pub fresh_matches : (store start next : ℕ)
      → (let s : SessionState T = record { state = fresh store start next; table = [] } in
      Matches s (empty_session store))
  fresh_matches store start next = record {
    order = [];
    difference = next;
    carries =
        search (arith, map.get-empty {X = Cell T} name_cmp, map.get-empty {X = Ownership} nat_cmp);
    names = search (arith, set.len-empty name_cmp, set.contains-empty name_cmp);
    numbers = search (arith, set.len-empty name_cmp, set.contains-empty name_cmp);
  }

  -- so a session of a fresh store matches it
  pub new_matches : (S : State T) (items : List (Thing T))
      → IsFresh S → items ≡ [] → Matches (as_session S items) (empty_session S.number)
  new_matches S items f none = rw (none, f) (fresh_matches S.number S.start S.next)

-- ==== owners' lists: each call of a session keeps each name in them at most once

module _ {T : Type 0} where
  pub session_listed : (s r : SessionState T) (c : Call T) (x : SessionReply T) → IsSound s.state
      → AreListedOnce s.state → SessionStep s c x r → AreListedOnce r.state
  session_listed s r c x sound l step = (by_step s r c x (λ S. IsSound S × AreListedOnce S)
      (λ S R action answer h meets. let kept = meets_sound S R action answer h.0 meets in
      (kept, stays_listed action answer h.0 meets h.1)) step (sound, l)).1

  pub run_listed : (calls : List (Call T)) (replies : List (SessionReply T)) (s r : SessionState T)
      → IsSoundSession s → AreListedOnce s.state → Run s calls replies r → AreListedOnce r.state
  run_listed calls replies s r kept l run = (by_run
      (λ s. IsSoundSession s × AreListedOnce s.state) (λ s r c x h step.
      (session_kept s r c x h.0 step, session_listed s r c x h.0.sound h.1 step))
      calls replies s r (kept, l) run).1

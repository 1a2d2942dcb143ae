-- What a shared store keeps under its lock.
pub mod Relocating
use Rattle.generational_core.specs.Machine.Answer.{Refused as RefusedFor}
use Rattle.generational_errors.specs.declared.error.Refused.{Refused as IsRefused}
use Rattle.std.specs.FinMap as map
use Rattle.shared_records.specs.declared.step.StepReply.TheVariants as reply
use Rattle.generational_core.specs.declared.steps.StepCall.TheVariants as call
unfoldable pub use Relocating.*

-- ==== the answer to a call that no borrow hinders

-- what hinders an end is a borrow
abbrev is_borrow : Option BorrowRefusal → Bool
is_borrow (Some (Dropped l)) = false
is_borrow _ = true

module _ {T : Type 0} where
  borrow_left : (cells left : NameMap (Cell T)) (n : Name)
      → is_borrow (hindrance_at cells left n) ≡ true
  borrow_left cells left n = grind arith

  borrow_among : (cells left : NameMap (Cell T)) (names : List Name)
      → is_borrow (first_hindrance cells left names) ≡ true
  borrow_among cells left [] = refl
  borrow_among cells left (n ∷ names) = grind (arith, borrow_left, borrow_among cells left names)

  hindered_borrow : (S : State T) (names : List Name) → is_borrow (hindrance_to S names) ≡ true
  unfolding hindrance_to
  hindered_borrow S names = borrow_among S.cells (cells_after S.cells names) names

  read_dropped : (S : State T) (b : GenerationalPointer) (k : Location)
      → refusal_to_read S b ≡ Some (Dropped k) → k ≡ b.created_at
  unfolding refusal_to_read
  read_dropped S b k e = grind arith

  write_dropped : (S : State T) (b : GenerationalPointer) (k : Location)
      → refusal_to_write S b ≡ Some (Dropped k) → k ≡ b.created_at
  unfolding refusal_to_write
  write_dropped S b k e = grind arith

  -- ---- boxes that name or reach something are the store's

  own_here : (S : State T) (id : GenerationalBoxId) (c : Cell T)
      → own_cell S id ≡ Some c → id.store ≡ S.number
  own_here S id c e = grind arith

  reach_here : (S : State T) (b : GenerationalPointer) (n : Name)
      → reach S b ≡ Some n → b.id.store ≡ S.number
  unfolding reach
  reach_here S b n e = grind arith

  -- so are what may be read, and what may be written
  readable_here : (S : State T) (b : GenerationalPointer) → refusal_to_read S b ≡ None
      → (b.id.store ≡ S.number) × (is_some (reach S b) ≡ true)
  unfolding refusal_to_read
  readable_here S b free = grind (arith, reach_here)

  writable_here : (S : State T) (b : GenerationalPointer) → refusal_to_write S b ≡ None
      → b.id.store ≡ S.number
  unfolding refusal_to_write
  writable_here S b free = grind (arith, reach_here)

  -- and a guard that is known
  pub reader_here : (S : State T) (g : Guard) → knows_reader S g ≡ true → g.store ≡ S.number
  reader_here S g known = eqb-true _ _ (and_parts (nat_eq g.store S.number) _ known).0

  -- ---- an outcome's answer succeeds or fails as the call may, and takes only a ticket that it needs

  abbrev AnswersFit : State T → Action T → Outcome T → Type 0
  AnswersFit S a out = (is_hindered a out.0 ≡ false → MayAnswer S.number a out.0)
      × (takes_ticket out.0 ≡ true → TakesTicket S.number a)

  limited_fits : (S : State T) (a : Action T) (out : Outcome T) → AnswersFit S a out → (b : Bool)
      → (takes_ticket out.0 && nat_eq S.next last_ticket) ≡ b
      → let limited : Outcome T = cond b (RefusedFor NumbersExhausted, S) out in
      is_hindered a limited.0 ≡ false → MayAnswer S.number a limited.0
  limited_fits S a out h true is free = h.1 (and_parts (takes_ticket out.0) _ is).0
  limited_fits S a out h false is free = h.0 free

  refer_fits : (S : State T) (o : Option OwnerName) (b : GenerationalPointer) (f : NewNames)
      → AnswersFit S (Refer o b) (act S (Refer o b) f)
  refer_fits S o b f = grind (arith, readable_here S b, read_dropped S b)

  -- what only a borrow hinders
  hinder_fits : (S : State T) (a : Action T) (t : Option BorrowRefusal) (out : Outcome T)
      → is_borrow t ≡ true → AnswersFit S a out → AnswersFit S a (unless t S out)
  hinder_fits S a t out borrow h = grind arith

  end_fits : (S : State T) (b : GenerationalPointer) (f : NewNames) → AnswersFit S (End b) (act S (End b) f)
  end_fits S b f = hinder_fits S (End b) (hindrance_to S (own_name S b)) _
      (hindered_borrow S (own_name S b)) (grind arith)

  released_fits : (S : State T) (o : OwnerName) (h : Option Ownership)
      → (is_some h ≡ true → o.store ≡ S.number) → AnswersFit S (ReleaseOwner o) (release_owner S o h)
  released_fits S o None own = grind arith
  released_fits S o (Some h) own = let borrow = hindered_borrow S h.names in grind arith

  release_fits : (S : State T) (o : OwnerName) (f : NewNames)
      → AnswersFit S (ReleaseOwner o) (act S (ReleaseOwner o) f)
  release_fits S o f = released_fits S o (ownership S o) (λ known. grind arith)

  read_fits : (S : State T) (b : GenerationalPointer) (l : Location) (f : NewNames)
      → AnswersFit S (Read b l) (act S (Read b l) f)
  read_fits S b l f = grind (arith, readable_here S b, read_dropped S b)

  write_fits : (S : State T) (b : GenerationalPointer) (l : Location) (f : NewNames)
      → AnswersFit S (Write b l) (act S (Write b l) f)
  write_fits S b l f = grind (arith, writable_here, write_dropped)

  set_fits : (S : State T) (b : GenerationalPointer) (v : T) (f : NewNames)
      → AnswersFit S (SetValue b v) (act S (SetValue b v) f)
  set_fits S b v f = grind (arith, reach_here)

  point_fits : (S : State T) (a b : GenerationalPointer) (f : NewNames)
      → AnswersFit S (Point a b) (act S (Point a b) f)
  point_fits S a b f =
      grind (arith, readable_here S b, read_dropped S b, reach_here S b, own_here S a.id, borrow_left)

  -- a recorded call
  act_fits : (S : State T) (a : Action T) (f : NewNames) → is_some (recorded_as a) ≡ true
      → AnswersFit S a (act S a f)
  act_fits S (Refer o b) f is = refer_fits S o b f
  act_fits S (ReleaseOwner o) f is = release_fits S o f
  act_fits S (Read b l) f is = read_fits S b l f
  act_fits S (Write b l) f is = write_fits S b l f
  act_fits S (SetValue b v) f is = set_fits S b v f
  act_fits S (End b) f is = end_fits S b f
  act_fits S (Point a b) f is = point_fits S a b f
  act_fits S a f is = grind arith

  pub answers_so : (S R : State T) (a : Action T) (c : StepCall) (answer : Answer T)
      → recorded_as a ≡ Some c → Meets S a answer R → is_hindered a answer ≡ false
      → MayAnswer S.number a answer
  answers_so S R a c answer asked (inl m) =
      subst (λ (o : Outcome T). is_hindered a o.0 ≡ false → MayAnswer S.number a o.0) (sym m.2)
      (limited_fits S a _ (act_fits S a m.0 (ap is_some asked)) _ refl)
  answers_so S R a c answer asked (inr m) = λ free. subst (MayAnswer S.number a) (sym m.1) tt

-- ==== what holds of what the lock protects holds after each call, and each recorded call is a step

pub no_borrows : {T : Type 0} (es : List (Name × Cell T)) → length es ≡ 0 → borrow_count_in es ≡ 0
no_borrows [] e = refl
no_borrows (e ∷ es) none = absurd (omega arith)

-- what the laws say: histories lead to sound states, of the store with the number of their start,
-- with its first generation
abbrev LeadTo : (Plain → Plain → Type 0) → Type 0
LeadTo Is = (P : Plain) (steps : List Step) (Q : Plain) → IsSound P
    → replay_from P steps ≡ Some Q → Is P Q

-- and recorded calls are lawful, with answers that they may have
pub record Laws (T : Type 0) : Type 0 where
  pub lawful : (S R : State T) (a : Action T) (c : StepCall) (answer : Answer T) (r : StepReply)
      → IsSound (plain S) → recorded_as a ≡ Some c → Meets S a answer R
      → recorded_reply R a answer ≡ Some r → plain_step (plain S) c r ≡ Some (plain R)
  pub sound : LeadTo (λ P Q. IsSound Q)
  pub numbered : LeadTo (λ P Q. Q.number ≡ P.number)
  pub answers : (S R : State T) (a : Action T) (c : StepCall) (answer : Answer T)
      → recorded_as a ≡ Some c → is_ready S c ≡ true → Meets S a answer R
      → MayAnswer S.number a answer

-- an answer is counted and kept as its record is; one that isn't recorded leaves all unchanged
record Tells {T : Type 0} (answer : Answer T) (r : Option StepReply) : Type 0 where
  kind : option_map step_kind r ≡ answer_kind answer
  lent : lent_in r ≡ given_by answer
  left : r ≡ None → leaves answer ≡ true

-- a log that has made room, and is else unchanged
pub record HasRoom (log room : LogState) : Type 0 where
  pub bases : room.bases ≡ log.bases
  pub steps : room.steps ≡ log.steps
  pub standing : room.standing ≡ log.standing

module _ {T : Type 0} where
  -- this holds if the answer is one that the call may have
  told : (number : ℕ) (S R : State T) (a : Action T) (answer : Answer T) → Meets S a answer R
      → MayAnswer number a answer → Tells answer (recorded_reply R a answer)
  told number S R (MakeShared o v l) (Made b) m may =
      let it = shared_named S R o v l (Ok b) m in grind arith
  told number S R a answer m may = grind arith

  -- a borrow that was ended was active
  stood : (S R : State T) (a : Action T) (answer : Answer T) → ends_borrow a ≡ true
      → Meets S a answer R → is_some (recorded_reply R a answer) ≡ true → borrows R + 1 ≤ borrows S
  stood S R (ReleaseReader g) answer ends m is =
      let less = λ (known : knows_reader S g ≡ true). without_stand S g.cell g.ticket
      (content_at S g.cell) refl (and_parts (nat_eq g.store S.number) _ known).1 in
      grind arith
  stood S R (ReleaseWriter g v) answer ends m is = let less = written_stand S g v in grind arith
  stood S R _ answer ends m is = absurd (true≢false (sym ends))

  module _ {number : ℕ} {S : State T} {log : LogState} (kept : IsKept number S log) where
    -- the state is of the store whose history's start it is, with the same first generation
    kept_number : LeadTo (λ P Q. Q.number ≡ P.number) → S.number ≡ number
    kept_number numbered = same_number kept.leads
        ∙ (numbered _ _ _ kept.sound kept.leads.replays ∙ (told_number log.bases.base ∙ kept.own))

    kept_start : LeadTo (λ P Q. Q.start ≡ P.start) → S.start ≡ 1
    kept_start started = same_start kept.leads
        ∙ (started _ _ _ kept.sound kept.leads.replays ∙ told_start log.bases.base)

    -- the base of a state that it describes, from which an empty history goes on
    pub rebased : {after : LogState} → LeadTo (λ P Q. Q.number ≡ P.number)
        → LeadTo (λ P Q. Q.start ≡ P.start)
        → after.bases.past ≡ log.bases.base.rows → after.bases.base.rows ≡ rows_of S
        → after.bases.base.number ≡ number → after.bases.base.next ≡ S.next
        → after.bases.base.peak ≡ S.peak → ReadBack S after.bases.base.rows → after.steps ≡ []
        → after.standing ≡ log.standing
        → (plain_of after.bases.base ≡ plain S) × IsKept number S after
    rebased {after = after} numbered started past rows own next peak read none stay =
        let same = kept_number numbered in
        let told : plain_of after.bases.base ≡ plain S =
        (λ i. told_by ((own ∙ sym same) i) (next i) (peak i) after.bases.base.rows)
        ∙ read (kept_start started) in (
          told,
          record {
            own = own;
            sound = subst IsSound (sym told) kept.ends;
            leads = led_nowhere told none;
            ends = kept.ends;
            rows = rw rows (own_past S kept.ends);
            past = rw past kept.rows;
            room = (let had = kept.room in omega arith);
          },
        )

    -- after a log has made room, and after the rows of the previous base were taken
    pub room_kept : {room : LogState} → HasRoom log room → IsKept number S room
    room_kept {room = room} made = subst (λ (p : Bases × List Step × ℕ).
        IsKept number S (record { bases = p.0; steps = p.1; standing = p.2; room = room.room }))
        (λ i. (sym made.bases i, sym made.steps i, sym made.standing i)) (assumption kept)

    pub taken_kept : {after : LogState}
        → after ≡ record log { bases = record { base = log.bases.base; past = [] } }
        → IsKept number S after
    taken_kept is = subst (IsKept number S) (sym is) (assumption kept)

  pub fresh_kept : {number : ℕ} {S : State T} {log : LogState}
      → start number ≡ plain (fresh {T = T} number 1 0) → IsSound (start number)
      → S ≡ fresh number 1 0 → log.bases ≡ record { base = new_base number; past = [] }
      → log.steps ≡ [] → IsKept number S log
  fresh_kept begins sound is based none =
      let empty = no_borrows (map.entries map.empty)
      (sym (map.len-entries map.empty) ∙ map.len-empty name_cmp (Cell T)) in
      let few = ap borrows is in
      let told = begins ∙ ap plain (sym is) in
      record {
        own = ap (λ (b : Bases). b.base.number) based;
        sound = rw based sound;
        leads = led_nowhere (ap (λ (b : Bases). plain_of b.base) based ∙ told) none;
        ends = subst IsSound told sound;
        rows = rw based tt;
        past = rw based tt;
        room = omega arith;
      }

  pub room_shared : (S : State T) (log room : LogState) {old : SharedState T}
      → room.bases ≡ log.bases → room.steps ≡ log.steps → shared S log ≡ old → shared S room ≡ old
  room_shared S log room base steps view =
      (λ i. record { state = S; base = (base i).base; history = steps i }) ∙ view

  -- what recording a reply comes to, if the log had made room for it and was otherwise unchanged, and the
  -- state before it, the call and the answer are known by other names
  module _ {number : ℕ} {S R : State T} {log room : LogState} {old : SharedState T} {c : StepCall}
      {r : Option StepReply} {a b : Action T} {answer : Answer T} (kept : IsKept number S log)
      (made : HasRoom log room) (view : shared S log ≡ old) (asks : a ≡ b)
      (asked : recorded_as a ≡ Some c) (ready : is_ready S c ≡ true) (met : Meets S a answer R)
      (replied : r ≡ recorded_reply R a answer) where
    abbrev was_answered : WasAnswered number room c r R
    was_answered = let it = room_kept kept made in
        record { before = S; action = a; answer = answer; answered = assumption it }

    module _ {after : LogState} {counts raised : Counts}
        (recorded : IsStepRecorded number room counts c r R after raised) where
      pub recorded_kept : IsKept number R after
      recorded_kept = recorded.kept was_answered

      pub recorded_step : {told : Answer T} → answer ≡ told
          → IsStep number old counts b told (shared R after) raised
      recorded_step same = subst
          (λ (p : SharedState T × Action T × Answer T).
          IsStep number p.0 counts p.1 p.2 (shared R after) raised)
          (λ i. (room_shared S log room made.bases made.steps view i, asks i, same i))
          (recorded.step was_answered)

  -- and the record of a borrow's end, for which there was room
  pub end_recorded : {number : ℕ} {S R : State T} {log after : LogState} {old : SharedState T}
      {c : StepCall} {r : Option StepReply} {counts raised : Counts} {a : Action T} {answer : Answer T}
      → IsKept number S log → shared S log ≡ old → ends_borrow a ≡ true → recorded_as a ≡ Some c
      → is_ready S c ≡ true → Meets S a answer R → r ≡ recorded_reply R a answer
      → (HasEnded number log c r R → IsStepRecorded number log counts c r R after raised)
      → IsKept number R after × IsStep number old counts a answer (shared R after) raised
  end_recorded {log = log} {a = a} kept view ends asked ready met replied records =
      let made : HasRoom log log = assumption in
      let same : a ≡ a = refl in
      let it = was_answered kept made view same asked ready met replied in
      let recorded = records (record { some = it; ends = ends }) in (
        recorded.kept it,
        recorded_step kept made view same asked ready met replied recorded refl,
      )

  -- makings with a value are always ready
  pub make_ready : (S : State T) (o : Option OwnerName) (v : T) (l : Location) (c : StepCall)
      → recorded_as (Make o v l) ≡ Some c → is_ready S c ≡ true
  make_ready S o v l c e = grind arith

  pub shared_ready : (S : State T) (o : Option OwnerName) (v : T) (l : Location) (c : StepCall)
      → recorded_as (MakeShared o v l) ≡ Some c → is_ready S c ≡ true
  shared_ready S o v l c e = grind arith

  -- a call that is ready, with the state and the call known by other names
  pub ready_as : {s seen : SharedState T} {c d : StepCall} → s ≡ seen → c ≡ d
      → is_ready seen.state d ≡ true → is_ready s.state c ≡ true
  ready_as is same ready = (λ i. is_ready (is i).state (same i)) ∙ ready

  -- a guard that opens something is of the store
  pub opened_by : ((base : BaseState) (steps : List Step) (Q : Plain) → IsSound (plain_of base)
      → replay_from (plain_of base) steps ≡ Some Q → Q.number ≡ base.number)
      → (number : ℕ) (s : SharedState T) (g : Guard) (v : T) → Some v ≡ value_behind s.state g
      → Replays number s → g.store ≡ number
  opened_by lead number s g v e replays =
      let known = cond_gives (knows_reader s.state g) (value_at s.state g.cell) v (sym e) in
      reader_here s.state g known.0 ∙ (same_number replays.2
      ∙ (lead s.base s.history replays.2.end replays.1 replays.2.replays ∙ replays.0))

-- a tally after a call with this reply
abbrev tallied : Option StepReply → Counts → Counts
tallied r c = raised_by (option_map step_kind r) c

-- ---- a call that the store has run

module _ {T : Type 0} (laws : Laws T) {number : ℕ} where
  module _ {S R : State T} {log : LogState} {a : Action T} {c : StepCall} {answer : Answer T}
      {r : Option StepReply} (it : IsAnswered number S log a c answer r R) where
    -- its answer is one that it may have
    may : MayAnswer number a answer
    may = subst (λ n. MayAnswer n a answer) (kept_number it.kept laws.numbered)
        (laws.answers S R a c answer it.asked it.ready it.met)

    tell : Tells answer r
    tell = rw it.replied (told number S R a answer it.met may)

    -- a borrow that it ended was active
    ended : ends_borrow a ≡ true → is_some r ≡ true → borrows R + 1 ≤ borrows S
    ended ends is = stood S R a answer ends it.met (ap is_some (sym it.replied) ∙ is)

    -- what isn't recorded leaves the state unchanged
    stays : r ≡ None → R ≡ S
    stays is = (meets_fine S R a answer it.met).1 (tell.left is)

    -- rows of an earlier state are such of the state after it
    still : (rows : List BaseRow) → ArePast (plain S) rows → ArePast (plain R) rows
    still = past_still (plain S) (plain R) (plain_call a) (plain_answer answer) it.kept.ends
        (plain_meets S R a answer it.met)

    module _ (after : LogState) (counts : Counts) (based : after.bases ≡ log.bases)
        (more : Records log.steps counts.worker c r after.steps) where
      stepped : {raised : Counts} → raised ≡ tallied r counts
          → IsStep number (shared S log) counts a answer (shared R after) raised
      stepped count = record {
        state = inl it.met;
        history = rw (it.asked, ← it.replied) more;
        base = ap (λ (b : Bases). b.base) based;
        tally = count ∙ ap (λ k. raised_by k counts) tell.kind;
        reply = may;
      }

      -- the history leads to the state after it, which is sound
      leads : (x : Option StepReply) → r ≡ x
          → HistoryLeadsTo (plain_of log.bases.base) after.steps (plain R) × IsSound (plain R)
      leads (Some x) is =
          let told = sym it.replied ∙ is in
          let step = laws.lawful S R a c answer x it.kept.ends it.asked it.met told in (
            led_on (plain_of log.bases.base) (plain S) (plain R) log.steps after.steps
                (step_of counts.worker c x) it.kept.leads (rw is at more) step,
            laws.sound (plain S) (step_of counts.worker c x ∷ []) (plain R) it.kept.ends step,
          )
      leads None is =
          let stay = ap plain (sym (stays is)) in
          (led_as refl (sym (rw is at more)) stay it.kept.leads, subst IsSound stay it.kept.ends)

      kept_on : borrows R ≤ after.standing → IsKept number R after
      kept_on few = record {
        own = rw based it.kept.own;
        sound = rw based it.kept.sound;
        leads = rw based (leads r refl).0;
        ends = (leads r refl).1;
        rows = rw based (still log.bases.base.rows it.kept.rows);
        past = rw based (still log.bases.past it.kept.past);
        room = few;
      }

      kept_more : after.standing ≡ log.standing + lent_in r → IsKept number R after
      kept_more stay = kept_on (
          let had = it.kept.room in
          let now = (meets_fine S R a answer it.met).0 in
          let lent = tell.lent in
          omega arith)

    fewer : (after : LogState) (x : Option StepReply) → r ≡ x → ends_borrow a ≡ true
        → after.standing + length (option_to_list x) ≡ log.standing → borrows R ≤ after.standing
    fewer after (Some x) is ends stay =
        let had = it.kept.room in let less = ended ends (ap is_some is) in omega arith
    fewer after None is ends stay =
        let had = it.kept.room in let same = ap borrows (stays is) in omega arith

    -- there is room for the release of an active borrow
    stands : (x : Option StepReply) → r ≡ x → ends_borrow a ≡ true → IfSome x (λ y. 0 < log.standing)
    stands (Some x) is ends =
        let had = it.kept.room in let less = ended ends (ap is_some is) in omega arith
    stands None is ends = tt

  -- what a log and a tally that record its reply come to
  module _ {R : State T} {log after : LogState} {c : StepCall} {r : Option StepReply}
      {counts raised : Counts} (based : after.bases ≡ log.bases) where
    recorded_by : Records log.steps counts.worker c r after.steps → raised ≡ tallied r counts
        → (WasAnswered number log c r R → IsKept number R after)
        → IsStepRecorded number log counts c r R after raised
    recorded_by more count kept =
        record { kept = kept; step = λ w. stepped w.answered after counts based more count }

    pub recorded : Records log.steps counts.worker c r after.steps → raised ≡ tallied r counts
        → after.standing ≡ log.standing + lent_in r → IsStepRecorded number log counts c r R after raised
    recorded more count stay =
        recorded_by more count (λ w. kept_more w.answered after counts based more stay)

    -- if there is one, and there is
    pub end_of_borrow_recorded : (IfSome r (λ y. 0 < log.standing)
        → Records log.steps counts.worker c r after.steps) → (IfSome r (λ y. 0 < log.standing) → raised ≡ tallied r counts)
        → (IfSome r (λ y. 0 < log.standing)
        → after.standing + length (option_to_list r) ≡ log.standing)
        → HasEnded number log c r R → IsStepRecorded number log counts c r R after raised
    end_of_borrow_recorded more count stay had =
        let it = had.some.answered in let there = stands it r refl had.ends in
        recorded_by (more there) (count there) (λ w. kept_on it after counts based (more there)
        (fewer it after r refl had.ends (stay there)))

  -- what isn't recorded leaves the log and the tally unchanged
  pub none_recorded : {R : State T} {log : LogState} {c : StepCall} {r : Option StepReply}
      {counts : Counts} → r ≡ None → IsStepRecorded number log counts c r R log counts
  none_recorded is = rw is (recorded refl refl refl (omega arith))

-- ==== a call whose answer is no error of a borrow, nor of a lack, was one that no borrow hindered; one
-- that failed changed nothing

-- what the law says: a call is ready exactly if the machine's answer isn't an error of a borrow
abbrev AreTold : Type 0 → Type 0
AreTold T = (S : State T) (a : Action T) (c : StepCall) (new : NewNames) → recorded_as a ≡ Some c
    → is_ready S c ≡ not (is_hindered a (act S a new).0)

pub on_true : {b : Bool} {P : Type 0} → b ≡ true → OnTrue b P → P
on_true {P = P} is told = subst (λ b. OnTrue b P) is told

-- an error leaves all unchanged
pub read_leaves : (T : Type 0) (e : IsRefused BorrowError) → leaves {T = T} (read_refused e) ≡ true
read_leaves T e = grind arith

pub end_leaves : (T : Type 0) (e : IsRefused BorrowMutError) → leaves {T = T} (end_refused e) ≡ true
end_leaves T e = grind arith

module _ {T : Type 0} where
  -- whether an answer says that memory or numbers ran out
  abbrev pub refuses : Answer T → Bool
  refuses (Refused e) = true
  refuses _ = false

  -- an answer that isn't an error of a lack is the machine's own
  unlimited : (S R : State T) (out : Outcome T) (answer : Answer T)
      → (answer, R) ≡ limit_tickets S out → refuses answer ≡ false → out.0 ≡ answer
  unlimited S R out answer is granted = grind arith

  pub granted_ready : AreTold T → (S R : State T) (a : Action T) (c : StepCall) (answer : Answer T)
      → recorded_as a ≡ Some c → Meets S a answer R → refuses answer ≡ false
      → is_hindered a answer ≡ false → is_ready S c ≡ true
  granted_ready told S R a c answer asked (inl m) granted free =
      told S a c m.0 asked
      ∙ ap not (ap (is_hindered a) (unlimited S R (act S a m.0) answer m.2 granted) ∙ free)
  granted_ready told S R a c answer asked (inr m) granted free =
      absurd (true≢false (sym (ap refuses m.1) ∙ granted))

  -- a call that fails with `Dropped` was ready too
  pub dropped_ready : AreTold T → (S R : State T) (a : Action T) (c : StepCall) (answer : Answer T)
      (l : Location) → recorded_as a ≡ Some c → Meets S a answer R
      → Some (reply.Dropped l) ≡ recorded_reply R a answer → is_ready S c ≡ true
  dropped_ready told S R a c answer l asked met replied =
      granted_ready told S R a c answer asked met (grind arith) (grind arith)

  -- a read's error has no location except the box's own
  act_tells : (S : State T) (b : GenerationalPointer) (l : Location) (new : NewNames) (k : Location)
      → (act S (Read b l) new).0 ≡ BorrowRefused (Dropped k) → k ≡ b.created_at
  unfolding refusal_to_read
  act_tells S b l new k e = grind arith

  pub read_told : (S R : State T) (b : GenerationalPointer) (l : Location) (answer : Answer T)
      → Meets S (Read b l) answer R → (told : Location)
      → Some (reply.Dropped told) ≡ recorded_reply R (Read b l) answer → told ≡ b.created_at
  read_told S R b l answer (inr m) told replied = cc (ap (recorded_reply R (Read b l)) m.1)
  read_told S R b l answer (inl m) told replied = grind (arith, act_tells S b l m.0)

  pub left_as : (S R : State T) (a : Action T) (answer : Answer T) → Meets S a answer R
      → leaves answer ≡ true → R ≡ S
  left_as S R a answer met left = (meets_fine S R a answer met).1 left

  pub left_kept : {number : ℕ} {log room after : LogState} (S R : State T) (a : Action T)
      (answer : Answer T) → IsKept number S log → HasRoom log room → Meets S a answer R
      → leaves answer ≡ true → after ≡ room → IsKept number R after
  left_kept {number = number} {room = room} S R a answer kept made met left is =
      rw (is, left_as S R a answer met left) (room_kept kept made)

  -- a call that failed, with the state after it known by another name
  pub refused : {c : StepCall} {r : Option StepReply} (S R : State T) (a : Action T) (answer : Answer T)
      → recorded_as a ≡ Some c → Meets S a answer R → r ≡ recorded_reply R a answer
      → leaves answer ≡ true → WasRefused c r R
  refused S R a answer asked met replied left =
      let stays = subst (λ s. Meets s a answer R) (sym (left_as S R a answer met left)) met in
      record { action = a; answer = answer; asked = asked; met = stays; replied = replied }

  -- and it was ready in the state after it
  pub left_ready : (c : StepCall) (S R : State T) (a : Action T) (answer : Answer T) → Meets S a answer R
      → leaves answer ≡ true → true ≡ is_ready R c → is_ready S c ≡ true
  left_ready c S R a answer met left now =
      ap (λ s. is_ready s c) (sym (left_as S R a answer met left)) ∙ sym now

  -- a call that a borrow hinders, and that changed nothing
  pub hindered : {old : SharedState T} {counts raised : Counts} {after : LogState}
      {c d : StepCall} (log room : LogState) (S R : State T) (a : Action T) (answer : Answer T)
      → room.bases ≡ log.bases
      → room.steps ≡ log.steps → shared S log ≡ old → Meets S a answer R → leaves answer ≡ true
      → after ≡ room → c ≡ d → false ≡ is_ready R c → raised ≡ counts
      → IsHindered old counts d (shared R after) raised
  hindered log room S R a answer base steps view met left is same stands count =
      let now = left_as S R a answer met left in
      record {
        waits = (λ i. is_ready ((ap (λ (s : SharedState T). s.state) (sym view) ∙ sym now) i) (sym same i))
            ∙ sym stands;
        state = (λ i. shared (now i) (is i)) ∙ room_shared S log room base steps view;
        tally = count;
      }

-- ==== the state without values takes the recorded step

-- what the laws of the machine say: a call is ready if its answer isn't an error of a borrow, and each
-- call is one of the state without values
abbrev IsTold : Type 0
IsTold = (P : Plain) (a : Action (Unit {0})) (c : StepCall) (new : NewNames)
    → recorded_as a ≡ Some c → is_ready P c ≡ not (is_hindered a (act P a new).0)

abbrev IsPlain : Type 0 → Type 0
IsPlain T = (S R : State T) (a : Action T) (answer : Answer T) → Meets S a answer R
    → Meets (plain S) (plain_call a) (plain_answer answer) (plain R)

-- ---- which answers are recorded

-- how an outcome is recorded
abbrev recorded_of : Plain → Action (Unit {0}) → Outcome (Unit {0}) → Option StepReply
recorded_of P a out = recorded_reply (limit_tickets P out).1 a (limit_tickets P out).0

-- an answer that is recorded isn't an error of a borrow
unhindered : (P : Plain) (a : Action (Unit {0})) (out : Outcome (Unit {0})) (r : StepReply)
    → recorded_of P a out ≡ Some r → is_hindered a out.0 ≡ false
unhindered P a out r h = grind arith

-- ---- a step without values

module _ (tell : IsTold) (P : Plain) where
  -- a call is a lawful step if the names in its reply are those that it takes
  lawful : (c : StepCall) (r : StepReply) (a : Action (Unit {0})) → recorded_as a ≡ Some c
      → action_of P c ≡ Some a → gives_new P a r ≡ true
      → recorded_of P a (act P a (names_of_reply r)) ≡ Some r
      → plain_step P c r ≡ Some (limit_tickets P (act P a (names_of_reply r))).1
  unfolding plain_step
  lawful c r a as_call action new h =
      let out : Outcome (Unit {0}) = limit_tickets P (act P a (names_of_reply r)) in
      let free = ap not (unhindered P a (act P a (names_of_reply r)) r h) in
      let ready = tell P a c (names_of_reply r) as_call ∙ free in
      ap (step_by P c r) action ∙ ap (λ b. cond b (Some out.1) None)
      (and_from _ _ ready (and_from _ _ new (recorded_is (recorded_reply out.1 a out.0) r h)))

  -- what a recorded call leads to
  abbrev Leads : StepCall → Action (Unit {0}) → Outcome (Unit {0}) → Type 0
  Leads c a out = (r : StepReply) → recorded_of P a out ≡ Some r
      → plain_step P c r ≡ Some (limit_tickets P out).1

  -- ---- makings

  abbrev TellsReply : Action (Unit {0}) → NewNames → Outcome (Unit {0}) → StepReply → Type 0
  TellsReply a new out r = (act P a (names_of_reply r) ≡ out) × (gives_new P a r ≡ true)

  make_tells : (o : Option OwnerName) (l : Location) (new : NewNames)
      → Takes P (Make o tt l) (limit_tickets P (act P (Make o tt l) new)).0 new → (r : StepReply)
      → recorded_of P (Make o tt l) (act P (Make o tt l) new) ≡ Some r
      → TellsReply (Make o tt l) new (act P (Make o tt l) new) r
  make_tells o l new takes r h = grind (arith, new_to)

  refer_tells : (o : Option OwnerName) (b : GenerationalPointer) (new : NewNames)
      → Takes P (Refer o b) (limit_tickets P (act P (Refer o b) new)).0 new → (r : StepReply)
      → recorded_of P (Refer o b) (act P (Refer o b) new) ≡ Some r
      → TellsReply (Refer o b) new (act P (Refer o b) new) r
  refer_tells o b new takes r h = grind (arith, new_to)

  some_is : (x y : StepReply) → Some x ≡ Some y → x ≡ y
  some_is x y e = cc

  -- an error for an unknown owner has no name
  unknown : (a : Action (Unit {0})) (new : NewNames) (r : StepReply)
      → ((f : NewNames) → act P a f ≡ (Refused UnknownOwner, P))
      → Some (reply.Store UnknownOwner) ≡ Some r
      → TellsReply a new (Refused UnknownOwner, P) r
  unknown a new r same e = subst (TellsReply a new (Refused UnknownOwner, P))
      (some_is (reply.Store UnknownOwner) r e) (same no_names, refl)

  shared_tells : (o : Option OwnerName) (l : Location) (new : NewNames) (known : Bool)
      → is_known P o ≡ known → let out : Outcome (Unit {0}) = cond known
      (make (add_cell P new.first (Shared (Here tt []) l)) o new.second (Ref new.first l) l)
      (Refused UnknownOwner, P) in
      Takes P (MakeShared o tt l) (limit_tickets P out).0 new → (r : StepReply)
      → recorded_of P (MakeShared o tt l) out ≡ Some r → TellsReply (MakeShared o tt l) new out r
  shared_tells o l new false is takes r h =
      unknown (MakeShared o tt l) new r (λ f. rw is refl) h
  shared_tells o l new true is takes r h =
      let shared = add_cell P new.first (Shared (Here tt []) l) in
      let out : Outcome (Unit {0}) = make shared o new.second (Ref new.first l) l in
      let box = box_of P.number new.second l in
      let at : recorded_of P (MakeShared o tt l) out
      ≡ Some (reply.MadeShared (id_of P.number new.first) box) =
      ap (option_map (λ id. reply.MadeShared id box)) (target_made shared o new.second new.first l) in
      subst (TellsReply (MakeShared o tt l) new out)
      (some_is (reply.MadeShared (id_of P.number new.first) box) r (sym at ∙ h)) (
        rw is refl,
        and_from _ _ (new_to P new.first takes.0) (new_to shared new.second takes.1),
      )

  gives_any : (a : Action (Unit {0})) (r : StepReply) → ((f : NewNames) → are_new P a f ≡ true)
      → gives_new P a r ≡ true
  gives_any a r new = grind arith

  -- the names in a recorded reply are those that the call takes, if it takes any
  tells : (a : Action (Unit {0})) (new : NewNames) → Takes P a (limit_tickets P (act P a new)).0 new
      → (r : StepReply) → recorded_of P a (act P a new) ≡ Some r → TellsReply a new (act P a new) r
  tells (Make o v l) new takes r h = make_tells o l new takes r h
  tells (MakeShared o v l) new takes r h = shared_tells o l new (is_known P o) refl takes r h
  tells (Refer o b) new takes r h = refer_tells o b new takes r h
  tells a new takes r h = (refl, gives_any a r (λ f. refl))

  -- so it is a step under the names that it takes
  named : (c : StepCall) (a : Action (Unit {0})) (new : NewNames) → recorded_as a ≡ Some c
      → action_of P c ≡ Some a → Takes P a (limit_tickets P (act P a new)).0 new
      → Leads c a (act P a new)
  named c a new as_call action takes r h =
      let it = tells a new takes r h in
      lawful c r a as_call action it.1 (ap (recorded_of P a) it.0 ∙ h)
      ∙ ap (λ out. Some (limit_tickets P out).1) it.0

  -- ---- releases

  -- a release whose answer is recorded was of a guard that the state knew
  own_guard : (g : Guard) → nat_eq g.store P.number ≡ true → guard_at P g.ticket g.cell ≡ g
  own_guard g own = grind arith

  reader_leads : (g : Guard) (new : NewNames) → IsSound P
      → Takes P (ReleaseReader g) (limit_tickets P (act P (ReleaseReader g) new)).0 new
      → Leads (call.ReleaseRead g.ticket) (ReleaseReader g) (act P (ReleaseReader g) new)
  reader_leads g new sound takes r h =
      let known : knows_reader P g ≡ true = grind arith in
      let parts = and_parts (nat_eq g.store P.number) _ known in
      named (call.ReleaseRead g.ticket) (ReleaseReader g) new refl
      (ap (option_map (λ n. ReleaseReader (guard_at P g.ticket n)))
      (reader_found P g.cell g.ticket sound parts.1)
      ∙ ap (λ x. Some (ReleaseReader x)) (own_guard g parts.0)) takes r h

  writer_leads : (g : Guard) (new : NewNames) → IsSound P
      → Takes P (ReleaseWriter g tt) (limit_tickets P (act P (ReleaseWriter g tt) new)).0 new
      → Leads (call.ReleaseWrite g.ticket) (ReleaseWriter g tt) (act P (ReleaseWriter g tt) new)
  writer_leads g new sound takes r h =
      let known : knows_writer P g ≡ true = grind arith in
      let parts = and_parts (nat_eq g.store P.number) _ known in
      named (call.ReleaseWrite g.ticket) (ReleaseWriter g tt) new refl
      (ap (option_map (λ n. ReleaseWriter (guard_at P g.ticket n) tt))
      (writer_found P g.cell g.ticket sound parts.1)
      ∙ ap (λ x. Some (ReleaseWriter x tt)) (own_guard g parts.0)) takes r h

  -- a step of a recorded call, under the names that it takes
  does : (a : Action (Unit {0})) (new : NewNames) → IsSound P
      → Takes P a (limit_tickets P (act P a new)).0 new
      → IfSome (recorded_as a) (λ c. Leads c a (act P a new))
  does (LeakOwner o) new sound takes = tt
  does (CanRead b) new sound takes = tt
  does (CanWrite b) new sound takes = tt
  does (ReleaseReader g) new sound takes = reader_leads g new sound takes
  does (ReleaseWriter g tt) new sound takes = writer_leads g new sound takes
  does (Make None tt l) new sound takes = named _ (Make None tt l) new refl refl takes
  does (MakeShared None tt l) new sound takes = named _ (MakeShared None tt l) new refl refl takes
  does (Refer None b) new sound takes = named _ (Refer None b) new refl refl takes
  does a new sound takes = named _ a new refl refl takes

  follows : (a : Action (Unit {0})) (c : StepCall) (answer : Answer (Unit {0})) (Q : Plain)
      (r : StepReply) → IsSound P → recorded_as a ≡ Some c → Meets P a answer Q
      → recorded_reply Q a answer ≡ Some r → plain_step P c r ≡ Some Q
  follows a c answer Q r sound e (inl m) h =
      let takes = subst (λ (o : Outcome (Unit {0})). Takes P a o.0 m.0) m.2 m.1 in
      subst (λ o. IfSome o (λ c. Leads c a (act P a m.0))) e (does a m.0 sound takes) r
      (ap (λ (o : Outcome (Unit {0})). recorded_reply o.1 a o.0) (sym m.2) ∙ h)
      ∙ ap (λ (o : Outcome (Unit {0})). Some o.1) (sym m.2)
  follows a c answer Q r sound e (inr m) h =
      let none : recorded_reply Q a answer ≡ None = ap (recorded_reply Q a) m.1 in absurd cc

-- ---- a step of the store, without values

module _ {T : Type 0} where
  plain_recorded : (a : Action T) → recorded_as (plain_call a) ≡ recorded_as a
  plain_recorded a = grind arith

  pub plain_follows : IsTold → IsPlain T → (S R : State T) (a : Action T) (c : StepCall)
      (answer : Answer T) (r : StepReply) → IsSound (plain S) → recorded_as a ≡ Some c
      → Meets S a answer R → recorded_reply R a answer ≡ Some r
      → plain_step (plain S) c r ≡ Some (plain R)
  plain_follows tell without S R a c answer r sound e m h =
      follows tell (plain S) (plain_call a) c (plain_answer answer) (plain R) r sound
      (plain_recorded a ∙ e) (without S R a answer m) (plain_reply R a answer ∙ h)

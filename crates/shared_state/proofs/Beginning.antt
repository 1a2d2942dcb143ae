-- Shared states that begin from an image, and images of shared states.
use Rattle.std.proofs.Common.{option_map}
use Rattle.std.specs.FinMap as map
use Rattle.std.specs.List.{AllByRecursion}
use Rattle.generational_core.specs.State.{IsBoxed}
use Rattle.generational_core.proofs.machine.Calls.Steps.Changes.Common.{named_from, named_gives, name_total, name_exact}
use Rattle.store_images.specs.Images.{cell_told, cells_told, entry_told, told}
use Rattle.store_images.specs.Saving.{IsCellCopy, IsStateCopy}
use Rattle.store_images.specs.declared.image.CellImage.{CellImage}
use Rattle.store_images.specs.declared.image.CellImage.TheVariants as saved
use Rattle.store_images.specs.declared.image.Image.{Image}
use Rattle.store_images.specs.declared.image.SlotImage.{SlotImage}
use Rattle.shared_state.specs.Beginning.{HasBegunFrom, IsOwnImage, IsUnseenImage}
use Rattle.shared_state.specs.Keeping.{shared}
use Rattle.shared_records.specs.declared.step.Kind.TheVariants as kind
use Rattle.std.proofs.Common.{Err, IfOk, Ok, Result}
use Rattle.shared_state.proofs.Keeping.{ap, arith, bare_cell, BaseState, borrows, borrow_count_in, borrows_inserted}
use Rattle.shared_state.proofs.Keeping.{borrow_count_of, Cell, Content, content_at, content_of, get_bare_cell}
use Rattle.shared_state.proofs.Keeping.{Here, is_shared, is_some, IsKept, IsSound, HistoryLeadsTo, led_as}
use Rattle.shared_state.proofs.Keeping.{led_nowhere, Lent, List, list_any, Location, LogState, Name, name_cmp}
use Rattle.shared_state.proofs.Keeping.{NameMap, nat_eq, no_borrows, None, Option, own_past, Plain, plain}
use Rattle.shared_state.proofs.Keeping.{plain_of, ReadBack, Ref, refl, replay_from, Replays, rows_of}
use Rattle.shared_state.proofs.Keeping.{same_number, same_start, Shared, SharedState, Some, State, Step, subst}
use Rattle.shared_state.proofs.Keeping.{sym, tickets_of, told_by, told_start, true, Value, ℕ, [], ◌++◌, ◌+◌}
use Rattle.shared_state.proofs.Keeping.{◌∙◌, ◌∷◌, ◌≡◌, all_trimmed, is_named, new_base, Trims}

-- ==== a sound state is sound without its values

module _ {T : Type 0} where
  bare_tickets : (c : Option (Cell T))
      → tickets_of (content_of (option_map bare_cell c)) ≡ tickets_of (content_of c)
  bare_tickets c = grind arith

  bare_shared : (c : Option (Cell T)) → is_shared (option_map bare_cell c) ≡ is_shared c
  bare_shared c = grind arith

  bare_there : (c : Option (Cell T)) → is_some (option_map bare_cell c) ≡ is_some c
  bare_there c = grind arith

  bare_ref : (m : Name) (l : Location) (c : Option (Cell T))
      → option_map bare_cell c ≡ Some (Ref m l) → c ≡ Some (Ref m l)
  bare_ref m l c is = grind arith

  module _ (S : State T) where
    bare_boxes : (names : List Name) → AllByRecursion (IsBoxed S) names
        → AllByRecursion (IsBoxed (plain S)) names
    bare_boxes [] all = tt
    bare_boxes (n ∷ names) all = (
      (all.0.0, ap is_shared (get_bare_cell S.cells n) ∙ (bare_shared (map.get S.cells n) ∙ all.0.1)),
      bare_boxes names all.1,
    )

    bare_stands : (n : Name) → tickets_of (content_at (plain S) n) ≡ tickets_of (content_at S n)
    bare_stands n =
        ap (λ c. tickets_of (content_of c)) (get_bare_cell S.cells n) ∙ bare_tickets (map.get S.cells n)

    bare_named : (m : Name) → is_named S.cells m ≡ true → is_named (plain S).cells m ≡ true
    bare_named m named =
        let it = named_gives S.cells m named in
        named_from (plain S).cells m
        (it.0, it.1, get_bare_cell S.cells it.0 ∙ ap (option_map bare_cell) it.2)

    pub sound_plain : IsSound S → IsSound (plain S)
    sound_plain s = record {
      given = λ n h.
          s.given n (sym (ap is_some (get_bare_cell S.cells n) ∙ bare_there (map.get S.cells n)) ∙ h);
      owned = λ k h e. bare_boxes h.names (s.owned k h e);
      targets = λ n m l e. ap is_shared (get_bare_cell S.cells m) ∙ (bare_shared (map.get S.cells m)
          ∙ s.targets n m l (bare_ref m l (map.get S.cells n) (sym (get_bare_cell S.cells n) ∙ e)));
      shared = λ m h. bare_named m (s.shared m
          (sym (ap is_shared (get_bare_cell S.cells m) ∙ bare_shared (map.get S.cells m)) ∙ h));
      below = λ n t h. s.below n t (ap (list_any (nat_eq t)) (sym (bare_stands n)) ∙ h);
      apart = λ n. rw (bare_stands n) (s.apart n);
      one_cell = λ n m t h k. s.one_cell n m t (ap (list_any (nat_eq t)) (sym (bare_stands n)) ∙ h)
          (ap (list_any (nat_eq t)) (sym (bare_stands m)) ∙ k);
      keys = s.keys;
    }

  -- ==== an image tells no borrows

  told_none : (i : ℕ) (slots : List (SlotImage T))
      → borrow_count_in (map.entries {R = name_cmp} (map.from_entries (cells_told i slots))) ≡ 0
  told_none i [] = no_borrows (map.entries {R = name_cmp} map.empty)
      (sym (map.len-entries {R = name_cmp} map.empty) ∙ map.len-empty name_cmp (Cell T))
  told_none i (s ∷ slots) = at s.cell (told_none (i + 1) slots)
    where
      rest : List (Name × Cell T)
      rest = cells_told (i + 1) slots

      one : (c : Cell T) → borrow_count_of c ≡ 0 → borrow_count_in (map.entries {R = name_cmp} (map.from_entries rest)) ≡ 0
          → borrow_count_in (map.entries {R = name_cmp} (map.from_entries (entry_told i s.generation (Some c) ++ rest))) ≡ 0
      one c none were =
          let weighs = borrows_inserted (map.from_entries rest)
          (record { slot = i; generation = s.generation }) c in omega arith

      at : (c : CellImage T) → borrow_count_in (map.entries {R = name_cmp} (map.from_entries rest)) ≡ 0
          → borrow_count_in (map.entries {R = name_cmp} (map.from_entries
          (entry_told i s.generation (cell_told c) ++ rest))) ≡ 0
      at saved.Empty none = none
      at (saved.Value v l) none = one (Value (Here v []) l) refl none
      at (saved.Shared v l) none = one (Shared (Here v []) l) refl none
      at (saved.Reference t g l) none = one (Ref (record { slot = t; generation = g }) l) refl none

  pub told_unborrowed : (i : Image T) → borrows (told i) ≡ 0
  unfolding told
  told_unborrowed i = told_none 0 i.slots.items

  pub told_numbers : (i : Image T) → ((told i).number ≡ i.number) × ((told i).start ≡ i.start)
  unfolding told
  told_numbers i = (refl, refl)

  -- ==== what is kept of a store's state, from whose base a history begins anew

  pub begun_kept : {number : ℕ} {S : State T} {log : LogState} → IsSound S → S.number ≡ number
      → S.start ≡ 1 → borrows S ≡ 0 → log.bases.base.rows ≡ rows_of S
      → ReadBack S log.bases.base.rows → log.bases.base.number ≡ number
      → log.bases.base.next ≡ S.next → log.bases.base.peak ≡ S.peak → log.bases.past ≡ []
      → log.steps ≡ [] → (plain_of log.bases.base ≡ plain S) × IsKept number S log
  begun_kept {number = number} {S = S} {log = log} sound same started free rows read own next peak past none =
      let told : plain_of log.bases.base ≡ plain S =
      (λ i. told_by ((own ∙ sym same) i) (next i) (peak i) log.bases.base.rows) ∙ read started in
      let ends = sound_plain S sound in (
        told,
        record {
          own = own;
          sound = subst IsSound (sym told) ends;
          leads = led_nowhere told none;
          ends = ends;
          rows = rw rows (own_past S ends);
          past = rw past tt;
          room = omega arith;
        },
      )

  -- ==== images of a state that is kept

  module _ (Copies : T → T → Type 0) (S R : State T) (copy : IsStateCopy Copies S R) where
    bare_copy : (c d : Option (Cell T)) → IsCellCopy Copies c d
        → option_map bare_cell d ≡ option_map bare_cell c
    bare_copy None d is = ap (option_map bare_cell) is
    bare_copy (Some (Value (Here v []) l)) d is = ap (option_map bare_cell) is.2
    bare_copy (Some (Shared (Here v []) l)) d is = ap (option_map bare_cell) is.2
    bare_copy (Some (Ref m l)) d is = ap (option_map bare_cell) is
    bare_copy (Some (Value (Here v (r ∷ rs)) l)) d is = absurd is
    bare_copy (Some (Shared (Here v (r ∷ rs)) l)) d is = absurd is
    bare_copy (Some (Value (Lent w) l)) d is = absurd is
    bare_copy (Some (Shared (Lent w) l)) d is = absurd is

    -- a copy has the same state without values
    pub plain_copy : plain R ≡ plain S
    plain_copy =
        let cells : (plain R).cells ≡ (plain S).cells = map.same_map name_total name_exact
        (plain R).cells (plain S).cells (λ n. get_bare_cell R.cells n
        ∙ (bare_copy (map.get S.cells n) (map.get R.cells n) (copy.cells n)
        ∙ sym (get_bare_cell S.cells n))) in
        (λ i. plain_with (copy.rest i) (plain R).cells) ∙ ap (plain_with S) cells
      where
        plain_with : State T → NameMap (Cell (Unit {0})) → Plain
        plain_with Q cells = record {
          number = Q.number;
          cells = cells;
          given = Q.given;
          owners = Q.owners;
          next = Q.next;
          peak = Q.peak;
          start = Q.start;
        }

  -- an image of a state to which a history leads has the store's numbers
  pub own_image : (Copies : T → T → Type 0) {number : ℕ} (s : SharedState T) (i : Image T)
      → ((base : BaseState) (steps : List Step) (Q : Plain) → IsSound (plain_of base)
      → replay_from (plain_of base) steps ≡ Some Q → Q.number ≡ base.number)
      → ((P : Plain) (steps : List Step) (Q : Plain) → IsSound P → replay_from P steps ≡ Some Q
      → Q.start ≡ P.start) → Replays number s → IsStateCopy Copies s.state (told i)
      → IsOwnImage number i
  own_image Copies s i numbered started replays copy =
      let led = replays.2 in (
        sym (told_numbers i).0 ∙ (ap (λ (S : State T). S.number) copy.rest
            ∙ (same_number led ∙ (numbered s.base s.history led.end replays.1 led.replays ∙ replays.0))),
        sym (told_numbers i).1 ∙ (ap (λ (S : State T). S.start) copy.rest ∙ (same_start led
            ∙ (started (plain_of s.base) s.history led.end replays.1 led.replays ∙ told_start s.base))),
      )

  -- and the history leads to what it tells
  pub led_to_image : (Copies : T → T → Type 0) {number : ℕ} (s : SharedState T) {base : BaseState}
      {steps : List Step} (i : Image T) → Replays number s → IsStateCopy Copies s.state (told i)
      → base ≡ s.base → steps ≡ s.history → HistoryLeadsTo (plain_of base) steps (plain (told i))
  led_to_image Copies s i replays copy same more =
      led_as (ap plain_of (sym same)) (sym more) (sym (plain_copy Copies s.state (told i) copy)) replays.2

  -- what a call answers of its image
  pub owned_image : {E : Type 0} (Copies : T → T → Type 0) {number : ℕ} (s : SharedState T)
      (r : Result (Image T) E)
      → ((base : BaseState) (steps : List Step) (Q : Plain) → IsSound (plain_of base)
      → replay_from (plain_of base) steps ≡ Some Q → Q.number ≡ base.number)
      → ((P : Plain) (steps : List Step) (Q : Plain) → IsSound P → replay_from P steps ≡ Some Q
      → Q.start ≡ P.start) → Replays number s → IfOk r (λ i. IsStateCopy Copies s.state (told i))
      → IfOk r (λ i. IsOwnImage number i)
  owned_image Copies s (Ok i) numbered started replays copy = own_image Copies s i numbered started replays copy
  owned_image Copies s (Err e) numbered started replays copy = tt

  pub unseen_image : {E : Type 0} (Copies : T → T → Type 0) {number : ℕ} (s : SharedState T)
      (r : Result (Image T) E) → Replays number s → IfOk r (λ i. IsStateCopy Copies s.state (told i))
      → IfOk r (λ i. IsUnseenImage Copies number i)
  unseen_image Copies s (Ok i) replays copy = record { old = s; replays = replays; copy = copy }
  unseen_image Copies s (Err e) replays copy = tt

  -- ==== what has begun from an image

  pub begun_at : {number : ℕ} {i : Image T} {S D : State T} {log : LogState} → D ≡ S → IsSound S
      → S ≡ told i → IsOwnImage number i → log.bases.base.rows ≡ rows_of S
      → ReadBack S log.bases.base.rows → log.bases.base.number ≡ number
      → log.bases.base.next ≡ S.next → log.bases.base.peak ≡ S.peak → log.bases.past ≡ []
      → log.steps ≡ [] → HasBegunFrom i (shared D log) × IsKept number D log
  begun_at {number = number} {i = i} {S = S} {log = log} same sound is own rows read numbered next peak past none =
      let kept = begun_kept sound (ap (λ (S : State T). S.number) is ∙ ((told_numbers i).0 ∙ own.0))
      (ap (λ (S : State T). S.start) is ∙ ((told_numbers i).1 ∙ own.1))
      (ap borrows is ∙ told_unborrowed i) rows read numbered next peak past none in
      let begun : HasBegunFrom i (shared S log) = record {
        state = is;
        history = none;
        base = kept.0 ∙ ap plain is;
        rows = rows ∙ ap rows_of is;
      } in
      subst (λ D. HasBegunFrom i (shared D log) × IsKept number D log) (sym same) (begun, kept.1)

-- a base that counts no steps after a new store's
pub none_trimmed : (number : ℕ) (b : BaseState) → Trims (new_base number) [] b → all_trimmed b ≡ 0
none_trimmed number b trims =
    let made = trims kind.Made in let lent = trims kind.Lent in
    let changed = trims kind.Changed in let refused = trims kind.Refused in omega arith

-- Slots that are made of an image's, one after the other.
use Rattle.std.proofs.Common.{◌≡◌, ◌<◌, ◌≤◌, ◌+◌, ◌∙◌, ◌++◌, ◌∷◌, [], ℕ, zero, suc, Bool, true, false, List, Some, None, Option}
use Rattle.std.proofs.Common.{arith, length, slice_get, slice_set, refl, sym, ap, if◌then◌else◌, nat_eq}
use Rattle.std.proofs.Common.{map as list_map}
use Rattle.std.proofs.Common.{◌≢◌, inl, inr, eq-eqb, take, add-one}
use Rattle.std.proofs.lemmas.Bool.{cases_eq, ne_eqb}
use Rattle.std.proofs.lemmas.Option.{slice_get_past}
use Rattle.std.proofs.lemmas.List.{length-append}
use Rattle.std.specs.Cmp.{nat_cmp_total}
use Rattle.std.proofs.Common.{◌&&◌}
use Rattle.std.proofs.lemmas.Bool.Decides.{nat_tests}
use Rattle.std.proofs.lemmas.Option.{slice_get-map}
use Rattle.std.proofs.lemmas.List.{length-map}
use Rattle.store_images.specs.Images.{HasBegun, HasTarget, HasTargetIn, has_shared, is_shared_in, is_usable, may_be_used}
use Rattle.store_images.specs.declared.image.CellImage.{CellImage}
use Rattle.store_images.specs.declared.image.CellImage.TheVariants as saved
use Rattle.store_slots.specs.ImageSlots.{HasSmallTarget, HaveSmallTargets, kept_told, slot_told}
use Rattle.store_slots.specs.SlotsState.{usable_count, EntryHasBegun, IsSlotTable, Retirements}
use Rattle.store_cells.specs.Entry.{cell_in}
use Rattle.std.proofs.Common.{drop, IfSome, option_map}
use Rattle.std.proofs.lemmas.Option.{slice_get_cases, none-some, same_Some}
use Rattle.std.proofs.lemmas.List.{drop_all}
use Rattle.generational_errors.specs.declared.error.Location.{Location}
use Rattle.generational_core.specs.Names.{Name}
use Rattle.generational_core.specs.Cells.{Cell, is_shared, refers_to}
use Rattle.generational_core.specs.Cells.Cell.{Value, Shared, Ref}
use Rattle.std.specs.FinMap as map
use Rattle.store_cells.specs.Entry.{cell_of, cell_under, target_name_in}
use Rattle.store_slots.specs.SlotsState.{AreReferred, count_more, IsReferred, refers}
use Rattle.store_slots.proofs.states.Counting.{counted_up, reference_to, HasShared, has_shared as shared_slot, recounted_written, references_of}
use Rattle.store_slots.proofs.states.Counting.Changes.{get_cells, name_here, not_named, referred}
use Rattle.store_parts.proofs.records.lists.{many_within}
use Rattle.store_parts.proofs.records.lists.{contains-insert_at}
use Rattle.store_images.specs.declared.image.SlotImage.{SlotImage}
use Rattle.std.specs.Ordering.{nat_cmp}
use Rattle.std.specs.FinSet as set
use Rattle.store_cells.specs.Entry.{Entry, change_entry, is_live}
use Rattle.store_parts.specs.Lists.{how_many}
use Rattle.store_slots.specs.SlotsState.{is_spent}
use Rattle.store_slots.specs.ImageSlots.{ArePooled, AreRecounted, is_retired_entry, IsTargetWithin}

module _ {X : Type 0} where
  pub last_there : (xs : List X) (x : X) → slice_get (xs ++ x ∷ []) (length xs) ≡ Some x
  last_there [] x = refl
  last_there (y ∷ xs) x = last_there xs x

  pub last_set : (xs : List X) (x y : X) → slice_set (xs ++ x ∷ []) (length xs) y ≡ xs ++ y ∷ []
  last_set [] x y = refl
  last_set (z ∷ xs) x y = ap (λ r. z ∷ r) (last_set xs x y)

-- the slot that was added last is changed
pub last_changed : {T : Type 0} (slots : List (Entry T)) (e : Entry T) (f : Entry T → Entry T)
    → change_entry (slots ++ e ∷ []) (length slots) f ≡ slots ++ f e ∷ []
last_changed slots e f = rw (last_there slots e) (last_set slots e (f e))

-- counting a list with another element
many_more : {X : Type 0} (p : X → Bool) (xs : List X) (x : X)
    → how_many p (xs ++ x ∷ []) ≡ how_many p xs + (if p x then 1 else 0)
many_more p [] x = omega arith
many_more p (y ∷ xs) x = let rest = many_more p xs x in omega arith

-- what a list has at an index, with another element
more_at : {X : Type 0} (e : X) (xs : List X) (k : ℕ) → k ≢ length xs → slice_get (xs ++ e ∷ []) k ≡ slice_get xs k
more_at e [] zero apart = absurd (apart refl)
more_at e [] (suc k) apart = refl
more_at e (x ∷ xs) zero apart = refl
more_at e (x ∷ xs) (suc k) apart = more_at e xs k (λ q. apart (ap suc q))

-- a list's first elements, one more
mapped_suc : {X Y : Type 0} (f : X → Y) (xs : List X) (i : ℕ) (x : X) → slice_get xs i ≡ Some x
    → list_map f (take (suc i) xs) ≡ list_map f (take i xs) ++ f x ∷ []
mapped_suc f [] i x there = grind arith
mapped_suc f (y ∷ xs) zero x there = grind arith
mapped_suc f (y ∷ xs) (suc i) x there = ap (λ r. f y ∷ r) (mapped_suc f xs i x there)

pub mapped_more : {X Y : Type 0} (f : X → Y) (xs : List X) (i : ℕ) (x : X) → slice_get xs i ≡ Some x
    → list_map f (take (i + 1) xs) ≡ list_map f (take i xs) ++ f x ∷ []
mapped_more f xs i x there = rw add-one (mapped_suc f xs i x there)

-- no slots are pooled
pub pooled_none : {T : Type 0} (free : set.FinSet nat_cmp) → free ≡ set.empty → ArePooled {T = T} [] free 0
pooled_none free none = record {
  pooled = λ k. rw none (set.contains-empty nat_cmp k);
  stocked = rw none (set.len-empty nat_cmp);
  counted = rw none (omega (arith, set.len-empty nat_cmp));
}

module _ {T : Type 0} (slots : List (Entry T)) (e : Entry T) where
  module _ (free : set.FinSet nat_cmp) (retired : ℕ) (before : ArePooled slots free retired) where
    -- the new slot isn't pooled
    pub unpooled : set.contains free (length slots) ≡ false
    unpooled = before.pooled (length slots) ∙ rw (slice_get_past slots (length slots) (omega arith)) refl

    pub pooled_more : (free' : set.FinSet nat_cmp) (b : Bool) → b ≡ is_retired_entry e
        → free' ≡ (if is_spent e then set.insert free (length slots) else free)
        → ArePooled (slots ++ e ∷ []) free' (retired + (if b then 1 else 0))
    pooled_more free' b told is = record {
      pooled = λ k. elim (cases_eq k (length slots)) [
        | inl same ↦ rw (same, last_there slots e, is) (
            let put = contains-insert_at free (length slots) (length slots) in
            let own = eq-eqb (length slots) (length slots) refl in
            let not = unpooled in grind arith)
        | inr apart ↦ rw (more_at e slots k apart, is) (
            let put = contains-insert_at free (length slots) k in
            let old = before.pooled k in
            let other = ne_eqb k (length slots) apart in grind arith)
      ];
      stocked = rw (is, many_more is_spent slots e) (
          let long = set.len-insert nat_cmp_total free (length slots) in
          let not = unpooled in let old = before.stocked in grind arith);
      counted = rw (is, many_more (λ e. is_live e.kept) slots e, length-append slots (e ∷ [])) (
          let long = set.len-insert nat_cmp_total free (length slots) in
          let not = unpooled in let old = before.counted in grind arith);
    }

-- ==== references are counted one after the other

dropped : {X : Type 0} (xs : List X) (i : ℕ) (x : X) → slice_get xs i ≡ Some x → drop i xs ≡ x ∷ drop (suc i) xs
dropped [] i x there = absurd (none-some x there)
dropped (y ∷ xs) zero x there = ap (λ z. z ∷ xs) (same_Some y x there)
dropped (y ∷ xs) (suc i) x there = dropped xs i x there

module _ {T : Type 0} (old : List (Entry T)) where
  -- how many references from the i-th slot on name a cell
  abbrev pub left : ℕ → Name → ℕ
  left i q = how_many (refers q) (drop i old)

  left_more : (i : ℕ) (e : Entry T) → slice_get old i ≡ Some e → (q : Name)
      → left i q ≡ (if refers q e then 1 else 0) + left (suc i) q
  left_more i e there q = rw (dropped old i e there) refl

  -- at first all are left
  pub left_all : ((k : ℕ) → IfSome (slice_get old k) (λ e. e.references ≡ 0)) → AreReferred (left 0) old
  left_all none = record { each = λ k. at k (slice_get old k) (none k) }
    where
      at : (k : ℕ) (o : Option (Entry T)) → IfSome o (λ e. e.references ≡ 0) → IsReferred old (left 0) k o
      at k None is = tt
      at k (Some e) is = λ shared. omega arith

  module _ (now : List (Entry T)) (i : ℕ) (counted : AreReferred (left i) now) where
    -- in the end none is left
    pub left_none : length old ≤ i → AreReferred (λ q. 0) now
    left_none past = record { each = λ k. at k (slice_get now k) (counted.each k) }
      where
        none : drop i old ≡ []
        none = drop_all i old past

        at : (k : ℕ) (o : Option (Entry T)) → IsReferred now (left i) k o → IsReferred now (λ q. 0) k o
        at k None was = tt
        at k (Some e) was = λ shared. rw none at (was shared)

    module _ (e : Entry T) (there : slice_get old i ≡ Some e) where
      -- a slot that has no reference
      pub left_still : ((q : Name) → refers q e ≡ false) → AreReferred (left (suc i)) now
      left_still unnamed = record { each = λ k. at k (slice_get now k) (counted.each k) }
        where
          at : (k : ℕ) (o : Option (Entry T)) → IsReferred now (left i) k o → IsReferred now (left (suc i)) k o
          at k None was = tt
          at k (Some f) was = λ shared.
              let q : Name = record { slot = k; generation = f.generation } in
              let more = left_more i e there q in
              let own = was shared in
              let none = unnamed q in
              grind arith

      module _ (m : Name) (l : Location) (is : cell_of e.kept ≡ Some (Ref m l))
          (shared : is_shared (cell_under now m) ≡ true) where
        t : HasShared now m
        t = shared_slot now m (rw (get_cells now m) shared)

        own : refers m e ≡ true
        own = rw is (name_here m)

        -- its target's count may rise
        pub left_may : (m.slot < length now) × IfSome (slice_get now m.slot) (λ f. f.references < length now)
        left_may =
            let count = references_of counted t in
            let most = many_within (refers m) now in
            let more : left i m ≡ 1 + left (suc i) m = rw (left_more i e there m, own) refl in
            (t.within, rw t.there (omega arith))

        -- and once it has, one less is left
        pub left_counted : AreReferred (left (suc i)) (count_more now (Some m))
        left_counted =
            let count = references_of counted t in
            let more : left i m ≡ 1 + left (suc i) m = rw (left_more i e there m, own) refl in
            referred (recounted_written now m.slot (λ f. f.references + 1) _ t.there) counted
            (λ q other. rw (t.there) (
            let one = left_more i e there q in
            let apart : refers q e ≡ false = rw is (not_named q m other) in
            grind arith))
            (λ is. rw t.there (omega arith))

-- an element that is written, and another
written : {X : Type 0} (xs : List X) (i : ℕ) (x : X) → i < length xs → slice_get (slice_set xs i x) i ≡ Some x
written (y ∷ xs) zero x within = refl
written (y ∷ xs) (suc i) x within = written xs i x (omega arith)
written [] i x within = absurd (omega arith)

pub unwritten : {X : Type 0} (xs : List X) (i k : ℕ) (x : X) → k ≢ i → slice_get (slice_set xs i x) k ≡ slice_get xs k
unwritten (y ∷ xs) zero zero x apart = absurd (apart refl)
unwritten (y ∷ xs) zero (suc k) x apart = refl
unwritten (y ∷ xs) (suc i) zero x apart = refl
unwritten (y ∷ xs) (suc i) (suc k) x apart = unwritten xs i k x (λ q. apart (ap suc q))
unwritten [] i k x apart = refl

module _ {T : Type 0} where
  -- counts don't change what slots keep
  kept_still : (now : List (Entry T)) (m : Name) (k : ℕ)
      → option_map (λ e. e.kept) (slice_get (count_more now (Some m)) k)
      ≡ option_map (λ e. e.kept) (slice_get now k)
  kept_still now m k = elim (slice_get_cases now m.slot).1 [
    | inl w ↦ rw w.2 (elim (cases_eq k m.slot) [
      | inl same ↦ rw (same, written now m.slot _ w.1, w.2) refl
      | inr apart ↦ rw (unwritten now m.slot k _ apart) refl
    ])
    | inr w ↦ rw w.1 refl
  ]

  pub same_first : (old : List (Entry T)) → AreRecounted old old
  same_first old = record { long = refl; state = λ start peak. refl; table = λ s. s; kept = λ k. refl }

  module _ (old now : List (Entry T)) (same : AreRecounted old now) where
    pub same_more : (m : Name) → AreRecounted old (count_more now (Some m))
    same_more m =
        let up = counted_up now (Some m) in
        record {
          long = up.long ∙ same.long;
          state = λ start peak. up.state start peak ∙ same.state start peak;
          table = λ s. up.table (same.table s);
          kept = λ k. kept_still now m k ∙ same.kept k;
        }

    under : (m : Name) → cell_under now m ≡ cell_under old m
    under m =
        sym (get_cells now m) ∙ ap (λ S. map.get S.cells m) (same.state 0 0) ∙ get_cells old m

    -- a slot, and what its reference names
    pub record IsAt (i g : ℕ) : Type 0 where
      pub entry : Entry T
      pub there : slice_get old i ≡ Some entry
      pub led : target_name_in (cell_under now (record { slot = i; generation = g })) ≡ target_name_in (cell_of entry.kept)

    pub at_slot : (i g : ℕ) → i < length old → IfSome (slice_get now i) (λ f. g ≡ f.generation) → IsAt i g
    at_slot i g within is = elim (slice_get_cases old i).1 [
      | inl w ↦ elim (slice_get_cases now i).1 [
        | inl v ↦ record {
          entry = w.0;
          there = w.2;
          led =
              let kept = rw (w.2, v.2) at (same.kept i) in
              let gen : g ≡ v.0.generation = rw v.2 at is in
              let own = eq-eqb g v.0.generation gen in
              rw v.2 (grind arith);
        }
        | inr v ↦ absurd (omega (arith, same.long))
      ]
      | inr w ↦ absurd (omega arith)
    ]

    -- what a reference names is shared
    pub target_shared : (i : ℕ) (e : Entry T) (m : Name) (l : Location) → slice_get old i ≡ Some e
        → cell_of e.kept ≡ Some (Ref m l)
        → IfSome (slice_get old i) (λ e. IsTargetWithin old (cell_of e.kept)) → is_shared (cell_under now m) ≡ true
    target_shared i e m l there is within =
        let own : is_shared (cell_under old m) ≡ true = rw (there, is) at within in
        ap is_shared (under m) ∙ own

-- a slot without a target is no reference
unreferred : {T : Type 0} (c : Option (Cell T)) (q : Name) → target_name_in c ≡ None → refers_to q c ≡ false
unreferred None q h = refl
unreferred (Some (Value c l)) q h = refl
unreferred (Some (Shared c l)) q h = refl
unreferred (Some (Ref m l)) q h = absurd (none-some m (sym h))

pub no_reference : {T : Type 0} (e : Entry T) → target_name_in (cell_of e.kept) ≡ None → (q : Name) → refers q e ≡ false
no_reference e none q = unreferred (cell_of e.kept) q none

-- one slot of the walk that counts references
module _ {T : Type 0} (old now : List (Entry T)) (same : AreRecounted old now) (i g : ℕ)
    (counted : AreReferred (left old i) now) (within : i < length old)
    (is : IfSome (slice_get now i) (λ f. g ≡ f.generation))
    (targets : (k : ℕ) → IfSome (slice_get old k) (λ e. IsTargetWithin old (cell_of e.kept))) where
  pub record IsStep (m : Name) : Type 0 where
    pub may : (m.slot < length now) × IfSome (slice_get now m.slot) (λ f. f.references < length now)
    pub after : AreRecounted old (count_more now (Some m))
    pub left_then : AreReferred (left old (i + 1)) (count_more now (Some m))

  pub step_some : (m : Name) → Some m ≡ target_name_in (cell_under now (record { slot = i; generation = g })) → IsStep m
  step_some m told =
      let at = at_slot old now same i g within is in
      let ref = reference_to (cell_of at.entry.kept) m (sym at.led ∙ sym told) in
      let shared = target_shared old now same i at.entry m ref.0 at.there ref.1 (targets i) in
      record {
        may = left_may old now i counted at.entry at.there m ref.0 ref.1 shared;
        after = same_more old now same m;
        left_then = rw add-one (left_counted old now i counted at.entry at.there m ref.0 ref.1 shared);
      }

  pub step_none : None ≡ target_name_in (cell_under now (record { slot = i; generation = g }))
      → AreReferred (left old (i + 1)) now
  step_none told =
      let at = at_slot old now same i g within is in
      rw add-one (left_still old now i counted at.entry at.there
      (no_reference at.entry (sym at.led ∙ sym told)))

-- ==== the slots of a whole image

module _ {T : Type 0} where
  usable_one : (g : ℕ) (c : CellImage T) → (if may_be_used g c then 1 else 0)
      ≡ (if is_live (kept_told c) then 1 else 0)
      + (if is_spent (record { generation = g; kept = kept_told c; references = 0 }) then 1 else 0)
  usable_one g saved.Empty = grind arith
  usable_one g (saved.Value v l) = refl
  usable_one g (saved.Shared v l) = refl
  usable_one g (saved.Reference s h l) = refl

  shared_cell : (g : ℕ) (c : CellImage T) (h : ℕ) → (has_shared c && nat_eq g h) ≡ true
      → is_shared (if nat_eq h g then cell_of (kept_told c) else None) ≡ true
  shared_cell g (saved.Shared v l) h is =
      let same : g ≡ h = grind (arith, nat_tests) in let own = eq-eqb h g (sym same) in grind arith
  shared_cell g saved.Empty h is = absurd (grind arith)
  shared_cell g (saved.Value v l) h is = absurd (grind arith)
  shared_cell g (saved.Reference s k l) h is = absurd (grind arith)

  -- those that are live or free
  usable_are : (slots : List (SlotImage T)) → how_many is_usable slots
      ≡ how_many (λ e. is_live e.kept) (list_map slot_told slots) + how_many is_spent (list_map slot_told slots)
  usable_are [] = refl
  usable_are (s ∷ slots) =
      let rest = usable_are slots in let one = usable_one s.generation s.cell in omega (arith, rest, one)

  module _ (slots : List (SlotImage T)) where
    -- references name slots with numbers of 32 bits, and cells of these slots
    pub small_targets : length slots < 4294967295 → ((k : ℕ) → HasTarget slots (slice_get slots k))
        → HaveSmallTargets slots
    small_targets few targets k = at (slice_get slots k) (targets k)
      where
        within : (s g : ℕ) → is_shared_in (slice_get slots s) g ≡ true → s < length slots
        within s g is = elim (slice_get_cases slots s).1 [
          | inl w ↦ w.1
          | inr w ↦ absurd (let miss = rw w.1 at is in grind arith)
        ]

        cell : (c : CellImage T) → HasTargetIn slots c → HasSmallTarget c
        cell saved.Empty h = tt
        cell (saved.Value v l) h = tt
        cell (saved.Shared v l) h = tt
        cell (saved.Reference s g l) h = let in_slots = within s g h in omega arith

        at : (o : Option (SlotImage T)) → HasTarget slots o → IfSome o (λ s. HasSmallTarget s.cell)
        at None h = tt
        at (Some s) h = cell s.cell h

    pub told_at : (k : ℕ) → slice_get (list_map slot_told slots) k ≡ option_map slot_told (slice_get slots k)
    told_at k = slice_get-map slot_told slots k

    pub uncounted_told : (k : ℕ) → IfSome (slice_get (list_map slot_told slots) k) (λ e. e.references ≡ 0)
    uncounted_told k = rw (told_at k) (at (slice_get slots k))
      where
        at : (o : Option (SlotImage T)) → IfSome (option_map slot_told o) (λ e. e.references ≡ 0)
        at None = tt
        at (Some s) = refl

    pub within_told : ((k : ℕ) → HasTarget slots (slice_get slots k)) → (k : ℕ)
        → IfSome (slice_get (list_map slot_told slots) k) (λ e. IsTargetWithin (list_map slot_told slots) (cell_of e.kept))
    within_told targets k = rw (told_at k) (at (slice_get slots k) (targets k))
      where
        shared : (o : Option (SlotImage T)) (g : ℕ) → is_shared_in o g ≡ true
            → is_shared (cell_in (option_map slot_told o) g) ≡ true
        shared None g is = absurd (grind arith)
        shared (Some s) g is = shared_cell s.generation s.cell g is

        cell : (c : CellImage T) → HasTargetIn slots c → IsTargetWithin (list_map slot_told slots) (cell_of (kept_told c))
        cell saved.Empty h = tt
        cell (saved.Value v l) h = tt
        cell (saved.Shared v l) h = tt
        cell (saved.Reference s g l) h = rw (told_at s) (shared (slice_get slots s) g h)

        at : (o : Option (SlotImage T)) → HasTarget slots o
            → IfSome (option_map slot_told o) (λ e. IsTargetWithin (list_map slot_told slots) (cell_of e.kept))
        at None h = tt
        at (Some s) h = cell s.cell h

    pub begun_told : (start : ℕ) → ((k : ℕ) → HasBegun start (slice_get slots k)) → (k : ℕ)
        → EntryHasBegun start (slice_get (list_map slot_told slots) k)
    begun_told start begun k = rw (told_at k) (at (slice_get slots k) (begun k))
      where
        at : (o : Option (SlotImage T)) → HasBegun start o → EntryHasBegun start (option_map slot_told o)
        at None h = tt
        at (Some s) h = h

    -- what holds of every store's slots holds of these
    module _ (free : set.FinSet nat_cmp) (retired start peak rooms : ℕ)
        (pooled : ArePooled (list_map slot_told slots) free retired) (fits : how_many is_usable slots ≤ peak)
        (few : peak ≤ length slots) where
      abbrev pub counts : Retirements
      counts = record { retired = retired; before = peak }

      long : length (list_map slot_told slots) ≡ length slots
      long = length-map slots slot_told

      pub peak_is : (usable_count counts (length (list_map slot_told slots))).peak ≡ peak
      peak_is = let u = usable_are slots in omega (arith, u, pooled.counted, pooled.stocked)

      pub retired_few : retired ≤ length (list_map slot_told slots)
      retired_few = omega (arith, pooled.counted)

      pub told_table : length (list_map slot_told slots) ≤ rooms
          → ((k : ℕ) → HasBegun start (slice_get slots k))
          → IsSlotTable (record {
            free = free;
            rooms = rooms;
            start = start;
            counts = usable_count counts (length (list_map slot_told slots));
            slots = list_map slot_told slots;
          })
      told_table roomy begun = record {
        pooled = pooled.pooled;
        roomy = roomy;
        begun = begun_told start begun;
        counted = omega (arith, pooled.counted);
        stocked = pooled.stocked;
        few = omega arith;
        bounded = omega (arith, peak_is, long);
      }

-- The state of a whole image's slots is sound.
use Rattle.std.proofs.Common.{◌≡◌, ◌<◌, ◌∙◌, ◌∷◌, [], ℕ, suc, Bool, true, false, List, Some, None, Option}
use Rattle.std.proofs.Common.{arith, slice_get, refl, sym, if◌then◌else◌, nat_eq, is_some, IfSome, option_map}
use Rattle.std.proofs.Common.{map as list_map, nat_lt}
use Rattle.std.proofs.lemmas.Bool.{lt-ltb}
use Rattle.std.proofs.lemmas.Bool.Decides.{nat_tests}
use Rattle.std.proofs.lemmas.Option.{none-some}
use Rattle.std.specs.Ordering.{nat_cmp}
use Rattle.std.specs.List.{list_any, IsDistinct}
use Rattle.std.specs.FinMap as map
use Rattle.generational_core.specs.Names.{Name}
use Rattle.generational_core.specs.Cells.{Cell, content_of, is_shared, refers_to}
use Rattle.generational_core.specs.Cells.Cell.{Ref}
use Rattle.generational_core.specs.State.{HasTargets, IsSound, IsGiven, Stands, tickets_at, tickets_of, is_named}
use Rattle.store_cells.specs.Entry.{Entry, cell_in, cell_of, cell_under}
use Rattle.store_parts.specs.Lists.{how_many}
use Rattle.store_images.specs.declared.image.CellImage.{CellImage}
use Rattle.store_images.specs.declared.image.CellImage.TheVariants as saved
use Rattle.store_images.specs.declared.image.SlotImage.{SlotImage}
use Rattle.store_images.specs.Images.{HasBegun, HasTarget, HasTargetIn, has_shared, IsReferredTo, refers_to_slot}
use Rattle.store_slots.specs.ImageSlots.{kept_told, slot_told, IsTargetWithin}
use Rattle.store_slots.specs.SlotsState.{cells_of, refers, state_of, with_records}
use Rattle.store_slots.proofs.states.Counting.{named_count}
use Rattle.store_slots.proofs.states.Counting.Changes.{get_cells, get_given, name_test}
use Rattle.store_slots.proofs.loading.{within_told, told_at, begun_told}

none_twice : IsDistinct nat_eq []
unfolding IsDistinct
none_twice = tt

module _ {T : Type 0} where
  abbrev tickets_in : Option (Cell T) → List ℕ
  tickets_in c = tickets_of (content_of c)

  shared_generation : (g : ℕ) (c : CellImage T) (h : ℕ)
      → is_shared (if nat_eq h g then cell_of (kept_told c) else None) ≡ true → g ≡ h
  shared_generation g c h is = grind (arith, nat_tests)

  shared_value : (g : ℕ) (c : CellImage T) (h : ℕ)
      → is_shared (if nat_eq h g then cell_of (kept_told c) else None) ≡ true → has_shared c ≡ true
  shared_value g saved.Empty h is = absurd (grind arith)
  shared_value g (saved.Value v l) h is = absurd (grind arith)
  shared_value g (saved.Shared v l) h is = refl
  shared_value g (saved.Reference s k l) h is = absurd (grind arith)

  -- there is no borrow at a cell of an image
  untaken : (c : CellImage T) → tickets_in (cell_of (kept_told c)) ≡ []
  untaken saved.Empty = refl
  untaken (saved.Value v l) = refl
  untaken (saved.Shared v l) = refl
  untaken (saved.Reference s g l) = refl

  module _ (slots : List (SlotImage T)) where
    abbrev entries : List (Entry T)
    entries = list_map slot_told slots

    untaken_at : (n : Name) → tickets_in (cell_under entries n) ≡ []
    untaken_at n = rw (told_at slots n.slot) (at (slice_get slots n.slot))
      where
        at : (o : Option (SlotImage T)) → tickets_in (cell_in (option_map slot_told o) n.generation) ≡ []
        at None = refl
        at (Some s) = elim (nat_eq n.generation s.generation) as (λ b. tickets_in (if b then cell_of (kept_told s.cell) else None) ≡ []) [
          | true ↦ untaken s.cell
          | false ↦ refl
        ]

    no_tickets : (n : Name) → tickets_at (cells_of entries) n ≡ []
    no_tickets n = rw (get_cells entries n) (untaken_at n)

    none_stands : (n : Name) (t : ℕ) → Stands (cells_of entries) n t → ⊥
    none_stands n t h = let miss = rw (no_tickets n) at h in grind arith

    targets_told : ((k : ℕ) → HasTarget slots (slice_get slots k)) → HasTargets (cells_of entries)
    targets_told targets n m l is =
        let own = rw (get_cells entries n) at is in
        rw (get_cells entries m) (at (slice_get entries n.slot) (within_told slots targets n.slot) own)
      where
        at : (o : Option (Entry T)) → IfSome o (λ e. IsTargetWithin entries (cell_of e.kept))
            → cell_in o n.generation ≡ Some (Ref m l) → is_shared (cell_under entries m) ≡ true
        at None within is = absurd (none-some _ is)
        at (Some e) within is =
            let there : cell_of e.kept ≡ Some (Ref m l) = grind (arith, nat_tests) in
            rw there at within

    given_told : (start peak number next : ℕ) → ((k : ℕ) → HasBegun start (slice_get slots k)) → (n : Name)
        → is_some (map.get (cells_of entries) n) ≡ true
        → IsGiven (with_records (state_of start peak entries) number map.empty next) n
    given_told start peak number next begun n live =
        let own = begun_told slots start begun n.slot in
        let under = get_cells entries n in
        grind (arith, nat_tests, get_given)

    -- ---- each shared value is named

    one_refers : (m : Name) (s : SlotImage T) → slice_get slots m.slot ≡ Some s → s.generation ≡ m.generation
        → (c : CellImage T) → HasTargetIn slots c → refers_to_slot m.slot c ≡ true
        → refers_to m (cell_of (kept_told c)) ≡ true
    one_refers m s there gen (saved.Reference t g l) has leads =
        let slot : m.slot ≡ t = grind (arith, nat_tests) in
        let own = rw (← slot, there) at has in
        grind (arith, nat_tests, name_test)
    one_refers m s there gen saved.Empty has leads = absurd (grind arith)
    one_refers m s there gen (saved.Value v l) has leads = absurd (grind arith)
    one_refers m s there gen (saved.Shared v l) has leads = absurd (grind arith)

    some_refer : (m : Name) (s : SlotImage T) → slice_get slots m.slot ≡ Some s → s.generation ≡ m.generation
        → (xs : List (SlotImage T)) → ((k : ℕ) → HasTarget slots (slice_get xs k))
        → list_any (λ s. refers_to_slot m.slot s.cell) xs ≡ true → 0 < how_many (refers m) (list_map slot_told xs)
    some_refer m s there gen [] targets any = absurd (grind arith)
    some_refer m s there gen (x ∷ xs) targets any =
        at (refers_to_slot m.slot x.cell) refl (some_refer m s there gen xs (λ k. targets (suc k)))
      where
        at : (b : Bool) → refers_to_slot m.slot x.cell ≡ b
            → (list_any (λ s. refers_to_slot m.slot s.cell) xs ≡ true → 0 < how_many (refers m) (list_map slot_told xs))
            → 0 < how_many (refers m) (list_map slot_told (x ∷ xs))
        at true leads rest =
            let one : refers m (slot_told x) ≡ true = one_refers m s there gen x.cell (targets 0) leads in
            rw one (omega arith)
        at false leads rest = let some = rest (rw leads at any) in omega (arith, some)

    named_told : ((k : ℕ) → HasTarget slots (slice_get slots k)) → ((k : ℕ) → IsReferredTo slots k (slice_get slots k))
        → (m : Name) → is_shared (map.get (cells_of entries) m) ≡ true → is_named (cells_of entries) m ≡ true
    named_told targets led m is =
        let own = rw (get_cells entries m, told_at slots m.slot) at is in
        rw (named_count entries m) (go (slice_get slots m.slot) refl own (led m.slot))
      where
        go : (o : Option (SlotImage T)) → slice_get slots m.slot ≡ o
            → is_shared (cell_in (option_map slot_told o) m.generation) ≡ true → IsReferredTo slots m.slot o
            → nat_lt 0 (how_many (refers m) entries) ≡ true
        go None there own led = absurd (grind arith)
        go (Some s) there own led =
            let same : s.generation ≡ m.generation = shared_generation s.generation s.cell m.generation own in
            let value = shared_value s.generation s.cell m.generation own in
            lt-ltb _ _ (some_refer m s there same slots targets (led value))

    -- ---- all of it

    pub told_sound : (start peak number next : ℕ) → ((k : ℕ) → HasBegun start (slice_get slots k))
        → ((k : ℕ) → HasTarget slots (slice_get slots k)) → ((k : ℕ) → IsReferredTo slots k (slice_get slots k))
        → IsSound (with_records (state_of start peak entries) number map.empty next)
    told_sound start peak number next begun targets led = record {
      given = given_told start peak number next begun;
      owned = λ k h is. absurd (none-some h (sym (map.get-empty nat_cmp k) ∙ is));
      targets = targets_told targets;
      shared = named_told targets led;
      below = λ n t h. absurd (none_stands n t h);
      apart = λ n. rw (no_tickets n) none_twice;
      one_cell = λ n m t h k. absurd (none_stands n t h);
      keys = λ k is. absurd (let none = rw (map.get-empty nat_cmp k) at is in grind arith);
    }

-- Images of slots: they describe the slots' state, and are whole.
use Rattle.std.proofs.Common.{◌≡◌, ◌≢◌, ◌<◌, ◌+◌, ◌∙◌, ◌++◌, ◌∷◌, [], ℕ, zero, suc, true, false}
use Rattle.std.proofs.Common.{inl, inr, List, Option, Some, None, IfNone, IfSome, is_some, option_map, if◌then◌else◌}
use Rattle.std.proofs.Common.{add-one, ap, arith, eq-eqb, length, nat_eq, refl, slice_get, sym, take}
use Rattle.std.proofs.Common.{map as list_map}
use Rattle.std.proofs.lemmas.Bool.Decides.{nat_tests}
use Rattle.std.proofs.lemmas.Option.{none-some, slice_get_cases}
use Rattle.std.specs.FinMap as map
use Rattle.generational_errors.specs.declared.error.Location.{Location}
use Rattle.generational_core.specs.Borrowing.{write_refusal}
use Rattle.generational_core.specs.Cells.{Cell, content_of, is_shared}
use Rattle.generational_core.specs.Cells.Cell.{Value, Shared, Ref}
use Rattle.generational_core.specs.Cells.Content.{Here, Lent}
use Rattle.generational_core.specs.Conditions.{IsLinked}
use Rattle.generational_core.specs.Names.{Name}
use Rattle.generational_core.specs.State.{State}
use Rattle.store_cells.specs.Entry.{cell_in, cell_of, cell_under, change_entry, change_entry_if}
use Rattle.store_cells.specs.Entry.{content_in, Entry, is_live, Kept}
use Rattle.store_cells.specs.Entry.Kept.{Empty, Live, Refers}
use Rattle.store_cells.specs.declared.entry.CellKind.TheVariants as kind
use Rattle.store_images.specs.Images.{HasBegun, HasTarget, HasTargetIn, has_shared, is_referred_to}
use Rattle.store_images.specs.Images.{is_shared_in, is_usable, IsReferredTo, IsWholeImage, refers_to_slot, told}
use Rattle.store_images.specs.Saving.{IsCellCopy, IsStateCopy}
use Rattle.store_images.specs.declared.image.CellImage.{CellImage}
use Rattle.store_images.specs.declared.image.Image.{Image}
use Rattle.store_images.specs.declared.image.SlotImage.{SlotImage}
use Rattle.store_parts.specs.Lists.{how_many}
use Rattle.store_slots.specs.ImageSlots.{AreSlotImages, AreUnborrowed, IsCellImage, IsSlotImage}
use Rattle.store_slots.specs.ImageSlots.{kept_told, slot_told}
use Rattle.store_slots.specs.SlotsState.{cells_of, given_of, EntryHasBegun, is_spent, IsSlotTable}
use Rattle.store_slots.specs.SlotsState.{SlotTable, state_of, with_records}
use Rattle.store_slots.proofs.loading.{told_at, unwritten}
use Rattle.store_slots.proofs.states.Counting.Changes.{content_kept, get_cells, get_given, given_in, same_cells, same_names}
use Rattle.store_slots.proofs.telling.{tells}

-- ==== one slot after the other

module _ {T : Type 0} (slots : List (Entry T)) (i k : ℕ) (f : Entry T → Entry T) (apart : k ≢ i) where
  -- a change of one slot leaves the others as they are
  pub changed_apart : slice_get (change_entry slots i f) k ≡ slice_get slots k
  changed_apart = at (slice_get slots i)
    where
      at : (o : Option (Entry T)) → slice_get (change_entry_if slots i f o) k ≡ slice_get slots k
      at None = refl
      at (Some e) = unwritten slots i k (f e) apart

-- a list's first elements, with one more
take_one : {X : Type 0} (xs : List X) (i : ℕ) (x : X) → slice_get xs i ≡ Some x
    → take (suc i) xs ≡ take i xs ++ x ∷ []
take_one [] i x there = absurd (none-some x there)
take_one (y ∷ xs) zero x there = grind arith
take_one (y ∷ xs) (suc i) x there = ap (λ r. y ∷ r) (take_one xs i x there)

-- what holds of what is there
pub both_there : {X : Type 0} (P Q : X → Type 0) (o : Option X) → IfSome o P → IfSome o Q
    → IfSome o (λ x. P x × Q x)
both_there P Q None p q = tt
both_there P Q (Some x) p q = (p, q)

module _ {T : Type 0} (Copies : T → T → Type 0) where
  -- the images of another slot
  pub images_more : (slots : List (Entry T)) (images : List (SlotImage T)) (e : Entry T) (s : SlotImage T)
      → AreSlotImages Copies slots images → IsSlotImage Copies e s
      → AreSlotImages Copies (slots ++ e ∷ []) (images ++ s ∷ [])
  images_more [] [] e s all one = (one, tt)
  images_more (x ∷ slots) (y ∷ images) e s all one =
      (all.0, images_more slots images e s all.1 one)
  images_more [] (y ∷ images) e s all one = absurd all
  images_more (x ∷ slots) [] e s all one = absurd all

  pub images_long : (slots : List (Entry T)) (images : List (SlotImage T))
      → AreSlotImages Copies slots images → length images ≡ length slots
  images_long [] [] all = refl
  images_long (x ∷ slots) (y ∷ images) all = ap suc (images_long slots images all.1)
  images_long [] (y ∷ images) all = absurd all
  images_long (x ∷ slots) [] all = absurd all

  -- a slot and its image, if there is one
  abbrev pub IsImageAt : Option (Entry T) → Option (SlotImage T) → Type 0
  IsImageAt None None = Unit {0}
  IsImageAt (Some e) (Some s) = IsSlotImage Copies e s
  IsImageAt _ _ = ⊥

  pub image_at : (slots : List (Entry T)) (images : List (SlotImage T)) → AreSlotImages Copies slots images
      → (k : ℕ) → IsImageAt (slice_get slots k) (slice_get images k)
  image_at [] [] all k = tt
  image_at (x ∷ slots) (y ∷ images) all zero = all.0
  image_at (x ∷ slots) (y ∷ images) all (suc k) = image_at slots images all.1 k
  image_at [] (y ∷ images) all k = absurd all
  image_at (x ∷ slots) [] all k = absurd all

  -- the first slots have images, and so have these with one more
  pub images_step : (slots : List (Entry T)) (i : ℕ) (images : List (SlotImage T)) (s : SlotImage T)
      → i < length slots → AreSlotImages Copies (take i slots) images
      → IfSome (slice_get slots i) (λ e. s.generation ≡ e.generation)
      → IfSome (slice_get slots i) (λ e. IsCellImage Copies e.kept s.cell)
      → AreSlotImages Copies (take (i + 1) slots) (images ++ s ∷ [])
  images_step slots i images s within all gen cell = elim (slice_get_cases slots i).1 [
    | inl w ↦
        let g = rw w.2 at gen in
        let c = rw w.2 at cell in
        rw (add-one, take_one slots i w.0 w.2) (images_more (take i slots) images w.0 s all (g, c))
    | inr w ↦ absurd (omega arith)
  ]

  -- ==== the state that they describe

  cell_copied : (k : Kept T) (c : CellImage T) → IsCellImage Copies k c
      → IsCellCopy Copies (cell_of k) (cell_of (kept_told c))
  cell_copied Empty c is = rw is refl
  cell_copied (Live kind.Value (Here v []) l) c is = (is.0, is.1, rw is.2 refl)
  cell_copied (Live kind.Shared (Here v []) l) c is = (is.0, is.1, rw is.2 refl)
  cell_copied (Refers m l) c is = rw is refl
  cell_copied (Live kind.Value (Here v (r ∷ rs)) l) c is = absurd is
  cell_copied (Live kind.Shared (Here v (r ∷ rs)) l) c is = absurd is
  cell_copied (Live kind.Value (Lent w) l) c is = absurd is
  cell_copied (Live kind.Shared (Lent w) l) c is = absurd is

  copied_in : (o : Option (Entry T)) (p : Option (SlotImage T)) (g : ℕ) → IsImageAt o p
      → IsCellCopy Copies (cell_in o g) (cell_in (option_map slot_told p) g)
  copied_in None None g is = refl
  copied_in (Some e) (Some s) g is =
      rw is.0 (elim (nat_eq g e.generation) as (λ b. IsCellCopy Copies (if b then cell_of e.kept else None)
      (if b then cell_of (kept_told s.cell) else None)) [
        | true ↦ cell_copied e.kept s.cell is.1
        | false ↦ refl
      ])
  copied_in None (Some s) g is = absurd is
  copied_in (Some e) None g is = absurd is

  given_same : (start g : ℕ) (o : Option (Entry T)) (p : Option (SlotImage T)) → IsImageAt o p
      → given_in start (option_map slot_told p) g ≡ given_in start o g
  given_same start g None None is = refl
  given_same start g (Some e) (Some s) is = rw is.0 refl
  given_same start g None (Some s) is = absurd is
  given_same start g (Some e) None is = absurd is

  -- an image of slots, with a store's number and next ticket, describes a copy of their state
  pub told_copy : (slots : List (Entry T)) (i : Image T) → AreSlotImages Copies slots i.slots.items
      → IsStateCopy Copies (with_records (state_of i.start i.peak slots) i.number map.empty i.next) (told i)
  told_copy slots i all = rw (← tells i) (record {
    cells = λ n. rw (get_cells slots n, get_cells (list_map slot_told i.slots.items) n, told_at i.slots.items n.slot)
        (copied_in (slice_get slots n.slot) (slice_get i.slots.items n.slot) n.generation
        (image_at slots i.slots.items all n.slot));
    rest = rw (same_names (given_of i.start (list_map slot_told i.slots.items)) (given_of i.start slots)
        (λ q. rw (get_given i.start (list_map slot_told i.slots.items) q, get_given i.start slots q, told_at i.slots.items q.slot)
        (given_same i.start q.generation (slice_get slots q.slot) (slice_get i.slots.items q.slot)
        (image_at slots i.slots.items all q.slot)))) refl;
  })

  -- ==== they are whole

  begun_image : (start : ℕ) (o : Option (Entry T)) (p : Option (SlotImage T)) → IsImageAt o p
      → EntryHasBegun start o → HasBegun start p
  begun_image start None None is begun = tt
  begun_image start (Some e) (Some s) is begun = rw is.0 begun
  begun_image start None (Some s) is begun = absurd is
  begun_image start (Some e) None is begun = absurd is

  -- a shared value has the image of one
  shared_kept : (k : Kept T) (c : CellImage T) → IsCellImage Copies k c
      → has_shared c ≡ is_shared (cell_of k)
  shared_kept Empty c is = rw is refl
  shared_kept (Live kind.Value (Here v []) l) c is = rw is.2 refl
  shared_kept (Live kind.Shared (Here v []) l) c is = rw is.2 refl
  shared_kept (Refers m l) c is = rw is refl
  shared_kept (Live kind.Value (Here v (r ∷ rs)) l) c is = absurd is
  shared_kept (Live kind.Shared (Here v (r ∷ rs)) l) c is = absurd is
  shared_kept (Live kind.Value (Lent w) l) c is = absurd is
  shared_kept (Live kind.Shared (Lent w) l) c is = absurd is

  shared_image : (o : Option (Entry T)) (p : Option (SlotImage T)) (g : ℕ) → IsImageAt o p
      → is_shared (cell_in o g) ≡ true → is_shared_in p g ≡ true
  shared_image None None g is shared = shared
  shared_image (Some e) (Some s) g is shared =
      let kept = shared_kept e.kept s.cell is.1 in
      let gen = is.0 in
      grind (arith, nat_tests)
  shared_image None (Some s) g is shared = absurd is
  shared_image (Some e) None g is shared = absurd is

  module _ (slots : List (Entry T)) (images : List (SlotImage T)) (all : AreSlotImages Copies slots images)
      (linked : IsLinked (cells_of slots)) where
    target_image : (k : Kept T) (c : CellImage T) → IsCellImage Copies k c
        → ((m : Name) (l : Location) → k ≡ Refers m l → is_shared (cell_under slots m) ≡ true)
        → HasTargetIn images c
    target_image Empty c is shared = rw is tt
    target_image (Live kind.Value (Here v []) l) c is shared = rw is.2 tt
    target_image (Live kind.Shared (Here v []) l) c is shared = rw is.2 tt
    target_image (Refers m l) c is shared =
        rw is (shared_image (slice_get slots m.slot) (slice_get images m.slot) m.generation
        (image_at slots images all m.slot) (shared m l refl))
    target_image (Live kind.Value (Here v (r ∷ rs)) l) c is shared = absurd is
    target_image (Live kind.Shared (Here v (r ∷ rs)) l) c is shared = absurd is
    target_image (Live kind.Value (Lent w) l) c is shared = absurd is
    target_image (Live kind.Shared (Lent w) l) c is shared = absurd is

    -- what is under the last name of a slot
    own_cell : (k : ℕ) (e : Entry T) → slice_get slots k ≡ Some e
        → map.get (cells_of slots) (record { slot = k; generation = e.generation }) ≡ cell_of e.kept
    own_cell k e there =
        let own = eq-eqb e.generation e.generation refl in
        get_cells slots (record { slot = k; generation = e.generation }) ∙ rw (there, own) refl

    pub images_targets : (k : ℕ) → HasTarget images (slice_get images k)
    images_targets k = at (slice_get slots k) refl (slice_get images k) (image_at slots images all k)
      where
        at : (o : Option (Entry T)) → slice_get slots k ≡ o → (p : Option (SlotImage T)) → IsImageAt o p
            → HasTarget images p
        at None there None is = tt
        at (Some e) there (Some s) is = target_image e.kept s.cell is.1 (λ m l same.
            sym (ap is_shared (get_cells slots m))
            ∙ linked.targets (record { slot = k; generation = e.generation }) m l
            (own_cell k e there ∙ ap cell_of same))
        at None there (Some s) is = absurd is
        at (Some e) there None is = absurd is

    -- a reference has the image of one
    refers_kept : (k : Kept T) (c : CellImage T) (m : Name) (l : Location) → IsCellImage Copies k c
        → cell_of k ≡ Some (Ref m l) → refers_to_slot m.slot c ≡ true
    refers_kept Empty c m l is ref = absurd (none-some _ ref)
    refers_kept (Live kind.Value content created) c m l is ref = absurd cc
    refers_kept (Live kind.Shared content created) c m l is ref = absurd cc
    refers_kept (Refers n created) c m l is ref =
        let same : m ≡ n = cc in rw (is, same) (eq-eqb n.slot n.slot refl)

    refers_image : (o : Option (Entry T)) (p : Option (SlotImage T)) (g : ℕ) (m : Name) (l : Location)
        → IsImageAt o p → cell_in o g ≡ Some (Ref m l)
        → IfSome p (λ s. refers_to_slot m.slot s.cell ≡ true) × (is_some p ≡ true)
    refers_image None p g m l is there = absurd (none-some _ there)
    refers_image (Some e) (Some s) g m l is there =
        let ref : cell_of e.kept ≡ Some (Ref m l) = grind (arith, nat_tests) in
        (refers_kept e.kept s.cell m l is.1 ref, refl)
    refers_image (Some e) None g m l is there = absurd is

    some_refers : (xs : List (SlotImage T)) (j k : ℕ) → is_some (slice_get xs j) ≡ true
        → IfSome (slice_get xs j) (λ s. refers_to_slot k s.cell ≡ true) → is_referred_to xs k ≡ true
    some_refers (x ∷ xs) zero k some is = grind arith
    some_refers (x ∷ xs) (suc j) k some is = let rest = some_refers xs j k some is in grind arith
    some_refers [] j k some is = absurd (grind arith)

    pub images_shared : (k : ℕ) → IsReferredTo images k (slice_get images k)
    images_shared k = at (slice_get slots k) refl (slice_get images k) (image_at slots images all k)
      where
        at : (o : Option (Entry T)) → slice_get slots k ≡ o → (p : Option (SlotImage T)) → IsImageAt o p
            → IsReferredTo images k p
        at None there None is = tt
        at (Some e) there (Some s) is = λ shared.
            let m : Name = record { slot = k; generation = e.generation } in
            let named = linked.named m (ap is_shared (own_cell k e there)
            ∙ sym (shared_kept e.kept s.cell is.1) ∙ shared) in
            let ref = refers_image (slice_get slots named.0.slot) (slice_get images named.0.slot)
            named.0.generation m named.1 (image_at slots images all named.0.slot)
            (sym (get_cells slots named.0) ∙ named.2) in
            some_refers images named.0.slot k ref.1 ref.0
        at None there (Some s) is = absurd is
        at (Some e) there None is = absurd is

  usable_kept : (g : ℕ) (k : Kept T) (c : CellImage T) → IsCellImage Copies k c
      → (if is_usable (record { generation = g; cell = c }) then 1 else 0)
      ≡ (if is_live k then 1 else 0) + (if is_spent (record { generation = g; kept = k; references = 0 }) then 1 else 0)
  usable_kept g Empty c is = rw is (grind arith)
  usable_kept g (Live kind.Value (Here v []) l) c is = rw is.2 refl
  usable_kept g (Live kind.Shared (Here v []) l) c is = rw is.2 refl
  usable_kept g (Refers m l) c is = rw is refl
  usable_kept g (Live kind.Value (Here v (r ∷ rs)) l) c is = absurd is
  usable_kept g (Live kind.Shared (Here v (r ∷ rs)) l) c is = absurd is
  usable_kept g (Live kind.Value (Lent w) l) c is = absurd is
  usable_kept g (Live kind.Shared (Lent w) l) c is = absurd is

  usable_images : (slots : List (Entry T)) (images : List (SlotImage T)) → AreSlotImages Copies slots images
      → how_many is_usable images ≡ how_many (λ e. is_live e.kept) slots + how_many is_spent slots
  usable_images [] [] all = refl
  usable_images (e ∷ slots) (s ∷ images) all =
      let rest = usable_images slots images all.1 in
      let one = usable_kept e.generation e.kept s.cell all.0.1 in
      let gen = all.0.0 in
      grind arith
  usable_images [] (y ∷ images) all = absurd all
  usable_images (x ∷ slots) [] all = absurd all

  pub images_whole : {p : SlotTable T} (t : IsSlotTable p) (i : Image T)
      → AreSlotImages Copies p.slots i.slots.items → IsLinked (cells_of p.slots)
      → i.start ≡ p.start → i.peak ≡ p.counts.peak → IsWholeImage i
  images_whole {p} t i all linked start peak = record {
    begun = λ k. rw start (begun_image p.start (slice_get p.slots k) (slice_get i.slots.items k)
        (image_at p.slots i.slots.items all k) (t.begun k));
    targets = images_targets p.slots i.slots.items all linked;
    shared = images_shared p.slots i.slots.items all linked;
    enough = omega (arith, usable_images p.slots i.slots.items all, t.counted, t.stocked, t.few, peak);
    few = omega (arith, images_long p.slots i.slots.items all, t.bounded, peak);
  }

module _ {T : Type 0} where
  -- ==== an image with the values themselves describes the state itself

  same_copy : (c d : Option (Cell T)) → IsCellCopy (λ v w. w ≡ v) c d → d ≡ c
  same_copy None d is = is
  same_copy (Some (Value (Here v []) l)) d is = is.2 ∙ ap (λ w. Some (Value (Here w []) l)) is.1
  same_copy (Some (Shared (Here v []) l)) d is = is.2 ∙ ap (λ w. Some (Shared (Here w []) l)) is.1
  same_copy (Some (Ref m l)) d is = is
  same_copy (Some (Value (Here v (r ∷ rs)) l)) d is = absurd is
  same_copy (Some (Shared (Here v (r ∷ rs)) l)) d is = absurd is
  same_copy (Some (Value (Lent w) l)) d is = absurd is
  same_copy (Some (Shared (Lent w) l)) d is = absurd is

  pub same_state : (S R : State T) → IsStateCopy (λ v w. w ≡ v) S R → R ≡ S
  same_state S R copy =
      copy.rest ∙ ap (λ cells. record S { cells = cells })
      (same_cells R.cells S.cells (λ n. same_copy (map.get S.cells n) (map.get R.cells n) (copy.cells n)))

  pub told_same : (slots : List (Entry T)) (i : Image T) → AreSlotImages (λ v w. w ≡ v) slots i.slots.items
      → told i ≡ with_records (state_of i.start i.peak slots) i.number map.empty i.next
  told_same slots i all = same_state _ (told i) (told_copy (λ v w. w ≡ v) slots i all)

  -- ==== borrows, as the slots and as the state see them

  module _ (slots : List (Entry T)) where
    own_content : (k : ℕ) (e : Entry T) → slice_get slots k ≡ Some e
        → content_of (map.get (cells_of slots) (record { slot = k; generation = e.generation })) ≡ content_in e.kept
    own_content k e there =
        let own = eq-eqb e.generation e.generation refl in
        rw (get_cells slots (record { slot = k; generation = e.generation }), there, own) (content_kept e.kept)

    pub unborrowed_slots : ((n : Name) → write_refusal (content_of (map.get (cells_of slots) n)) ≡ None)
        → AreUnborrowed slots
    unborrowed_slots free k = at (slice_get slots k) refl
      where
        at : (o : Option (Entry T)) → slice_get slots k ≡ o → IfSome o (λ e. write_refusal (content_in e.kept) ≡ None)
        at None there = tt
        at (Some e) there =
            let own = own_content k e there in
            rw own at (free (record { slot = k; generation = e.generation }))

    pub unborrowed_cells : AreUnborrowed slots
        → (n : Name) → write_refusal (content_of (map.get (cells_of slots) n)) ≡ None
    unborrowed_cells free n = rw (get_cells slots n) (at (slice_get slots n.slot) (free n.slot))
      where
        at : (o : Option (Entry T)) → IfSome o (λ e. write_refusal (content_in e.kept) ≡ None)
            → write_refusal (content_of (cell_in o n.generation)) ≡ None
        at None is = refl
        at (Some e) is =
            elim (nat_eq n.generation e.generation)
            as (λ b. write_refusal (content_of (if b then cell_of e.kept else None)) ≡ None) [
              | true ↦ rw (content_kept e.kept) is
              | false ↦ refl
            ]

    pub borrowed_cell : (k : ℕ) → k < length slots
        → IfSome (slice_get slots k) (λ e. is_some (write_refusal (content_in e.kept)) ≡ true)
        → (g : ℕ) × (is_some (write_refusal (content_of (map.get (cells_of slots)
        (record { slot = k; generation = g })))) ≡ true)
    borrowed_cell k within is = elim (slice_get_cases slots k).1 [
      | inl w ↦ (w.0.generation, rw (own_content k w.0 w.2) (rw w.2 at is))
      | inr w ↦ absurd (omega arith)
    ]

    -- as a search of the slots finds it
    pub borrowed_at : (o : Option ℕ) → IfSome o (λ k. k < length slots)
        → IfSome o (λ k. IfSome (slice_get slots k) (λ e. is_some (write_refusal (content_in e.kept)) ≡ true))
        → IfSome o (λ k. (g : ℕ) × (is_some (write_refusal (content_of (map.get (cells_of slots)
        (record { slot = k; generation = g })))) ≡ true))
    borrowed_at None within is = tt
    borrowed_at (Some k) within is = borrowed_cell k within is

    pub unborrowed_at : (o : Option ℕ) → IfNone o (AreUnborrowed slots)
        → IfNone o ((n : Name) → write_refusal (content_of (map.get (cells_of slots) n)) ≡ None)
    unborrowed_at None free = unborrowed_cells free
    unborrowed_at (Some k) free = tt

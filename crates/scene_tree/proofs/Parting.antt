-- Rows of children by ids, and links that are built of a store's cells and of rows.
use Rattle.scene_tree.proofs.Moving.{alone, ap, AreNodesNoted, arith, at_slot, Bool}
use Rattle.scene_tree.proofs.Moving.{cases_Bool, cases_eq, children_at, children_of, count_at}
use Rattle.scene_tree.proofs.Moving.{families, Family, family_at, family_in, GenerationalBoxId, GenerationalPointer, gone_family}
use Rattle.scene_tree.proofs.Moving.{HasOpened, id_in, is_id as handle_is, is_live, is_same, is_some, IsAttached, IsForest}
use Rattle.scene_tree.proofs.Moving.{IsTreeKept, IsLiveIn, IsSame, IsSimple, IsSound, kept_attached, length}
use Rattle.scene_tree.proofs.Moving.{length-map, Link, List, live_children, live_parent, live_within, map}
use Rattle.scene_tree.proofs.Moving.{Node, None, none-some, noted, one_live, Option, option_map, parent_at, parent_of, part_with}
use Rattle.scene_tree.proofs.Moving.{placed, pointer_in, refl, same_id, same_id_sees, same_shown, same_Some, slice_get, slice_get_within}
use Rattle.scene_tree.proofs.Moving.{slot_in, slot_of, slots, Some, State, subst, sym, take, take-append-le, true, true≢false}
use Rattle.scene_tree.proofs.Moving.{under_alone, value_in, false, ℕ, [], ⊎_elim, ◌++◌, ◌+◌, ◌<◌, ◌∙◌, ◌∷◌, ◌≡◌, ◌≢◌, ◌≤◌}
use Rattle.scene_tree.proofs.Moving.{get_or, slice_get-get_or, take_more}
use Rattle.scene_tree.proofs.Moving.{family_of, live_family, Location, name_of, pushed_old}
use Rattle.location_list.specs.Locations.{is_among, with_location}
use Rattle.generational_core.specs.Keeping.{box_with}
use Rattle.generational_core.specs.Slots.{last_name}
use Rattle.generational_laws.proofs.callers.{get_pushed}
use Rattle.scene_tree.specs.Building.{AreLone, AreRowsOf, tree_of}
use Rattle.scene_tree.specs.Parts.{AreChildRows, children_told, is_id, IsLiveId, IsNewRow, parent_told}
use Rattle.scene_tree.specs.declared.parts.ChildRow.{ChildRow}
use Rattle.scene_tree.specs.declared.spot.Spot.TheVariants as spot
use Rattle.std.proofs.Math.Seq.{take-append_seam}
use Rattle.std.proofs.lemmas.List.{map-append}
use Rattle.std.specs.FinMap as finite

-- ==== what rows list, with one more

pub id_is : (a b : GenerationalBoxId) → is_id a b ≡ true → a ≡ b
id_is a b is = grind arith

pub is_of : (a b : GenerationalBoxId) → a ≡ b → is_id a b ≡ true
is_of a b is = grind arith

pub not_id : (a b : GenerationalBoxId) → a ≢ b → is_id a b ≡ false
not_id a b ne = ⊎_elim (λ is. absurd (ne (id_is a b is))) (λ other. other) (cases_Bool (is_id a b))

parent_new : (xs : List ChildRow) (r : ChildRow) (id : GenerationalBoxId) → parent_told xs id ≡ None → r.child ≡ id
    → parent_told (xs ++ r ∷ []) id ≡ Some r.parent
parent_new [] r id none is = grind (arith, is_of r.child id is)
parent_new (q ∷ xs) r id none is = grind (arith, parent_new xs r id, cases_Bool (is_id q.child id))

pub parent_old : (xs : List ChildRow) (r : ChildRow) (id : GenerationalBoxId) → r.child ≢ id
    → parent_told (xs ++ r ∷ []) id ≡ parent_told xs id
parent_old [] r id ne = grind (arith, not_id r.child id ne)
parent_old (q ∷ xs) r id ne = grind (arith, parent_old xs r id ne, cases_Bool (is_id q.child id))

children_new : (xs : List ChildRow) (r : ChildRow) (id : GenerationalBoxId) → r.parent ≡ id
    → children_told (xs ++ r ∷ []) id ≡ children_told xs id ++ r.child ∷ []
children_new [] r id is = grind (arith, is_of r.parent id is)
children_new (q ∷ xs) r id is = grind (arith, children_new xs r id is, cases_Bool (is_id q.parent id))

pub children_old : (xs : List ChildRow) (r : ChildRow) (id : GenerationalBoxId) → r.parent ≢ id
    → children_told (xs ++ r ∷ []) id ≡ children_told xs id
children_old [] r id ne = grind (arith, not_id r.parent id ne)
children_old (q ∷ xs) r id ne = grind (arith, children_old xs r id ne, cases_Bool (is_id q.parent id))

-- rows that fit a tree, with one more that does
module _ {T : Type 0} {S : State T} (xs : List ChildRow) (r : ChildRow) (fits : AreChildRows S xs) (child : IsLiveId S r.child)
    (parent : IsLiveId S r.parent) (new : IsNewRow xs r) where
  more_each : (P : ChildRow → Type 0) → ((k : ℕ) (q : ChildRow) → slice_get xs k ≡ Some q → P q) → P r
      → (k : ℕ) (q : ChildRow) → slice_get (xs ++ r ∷ []) k ≡ Some q → P q
  more_each P each here k q is =
      ⊎_elim (λ old. each k q old) (λ last. subst P last.1 here) (get_pushed xs k r q is)

  more_ordered : (k : ℕ) (q : ChildRow) → slice_get (xs ++ r ∷ []) k ≡ Some q → IsNewRow (take k (xs ++ r ∷ [])) q
  more_ordered k q is = ⊎_elim
      (λ old. subst (λ ys. IsNewRow ys q) (sym (take-append-le k xs (r ∷ []) (omega (arith, slice_get_within xs k q old))))
      (fits.ordered k q old))
      (λ last. subst (λ j. IsNewRow (take j (xs ++ r ∷ [])) q) (sym last.0)
      (subst (λ ys. IsNewRow ys q) (sym (take-append_seam xs (r ∷ []))) (subst (IsNewRow xs) last.1 new)))
      (get_pushed xs k r q is)

  pub fit_more : AreChildRows S (xs ++ r ∷ [])
  fit_more = record {
    children = more_each (λ q. IsLiveId S q.child) fits.children child;
    parents = more_each (λ q. IsLiveId S q.parent) fits.parents parent;
    ordered = more_ordered;
  }

-- no rows fit any tree
pub fit_none : {T : Type 0} (S : State T) → AreChildRows S []
fit_none S = record { children = λ k r is. none k r is; parents = λ k r is. none k r is; ordered = λ k r is. none k r is }
  where
    none : {P : Type 0} (k : ℕ) (r : ChildRow) → slice_get [] k ≡ Some r → P
    none k r is = absurd (none-some r is)

-- the rows up to one and that row
pub row_at : (xs : List ChildRow) (at : ℕ) → at < length xs
    → (r : ChildRow) × (take (at + 1) xs ≡ take at xs ++ r ∷ []) × ((d : ChildRow) → get_or xs at d ≡ r)
row_at [] at lt = absurd (omega (arith, lt))
row_at (x ∷ xs) at lt = (
  get_or (x ∷ xs) at x,
  take_more (x ∷ xs) at x lt,
  λ d. same_Some _ _ (sym (slice_get-get_or (x ∷ xs) at d lt) ∙ slice_get-get_or (x ∷ xs) at x lt),
)

-- ==== a row's child is linked to its parent

module _ {T : Type 0} where
  -- a live node's id is another live node's only if they are the same; a dead node has none
  pub live_as : (S : State T) (a b : Node T) → IsSame a b → IsLiveIn S a → IsLiveIn S b
  live_as S a b same live = sym (ap is_some (same_shown S a b same)) ∙ live

  pub other_id : (a b : Node T) → is_same a b ≡ false → id_in a ≢ id_in b
  other_id a b other same = true≢false (sym (same_id a b same) ∙ other)

  no_parent_of : (o : Option (Node T)) → option_map id_in o ≡ None → o ≡ None
  no_parent_of None is = refl
  no_parent_of (Some n) is = absurd (none-some (id_in n) (sym is))

  no_children_of : (xs : List (Node T)) → map id_in xs ≡ [] → xs ≡ []
  no_children_of [] is = refl
  no_children_of (n ∷ xs) is = cc

  pub lone_of : (f : Family T) → f.parent ≡ None → f.children ≡ [] → f ≡ alone
  lone_of f parent children = λ i. record { parent = parent i; children = children i }

  module _ {S : State T} {fs : List (Family T)} (sound : IsSound S) (k : IsTreeKept S fs) (xs : List ChildRow)
      (told : AreRowsOf S fs xs) (child : Node T) (live : IsLiveIn S child) where
    parent_here : parent_told xs (id_in child) ≡ option_map id_in (parent_at fs (slot_in child))
    parent_here = told.parents child ∙ ap (option_map id_in) (live_parent sound k [] child live)

    children_here : children_told xs (id_in child) ≡ map id_in (children_at fs (slot_in child))
    children_here = told.children child ∙ ap (map id_in) (live_children sound k [] child live)

    -- a child that is in no row is alone
    pub new_lone : (r : ChildRow) → r.child ≡ id_in child → IsNewRow xs r → family_at fs (slot_in child) ≡ alone
    new_lone r is new = lone_of (family_at fs (slot_in child))
        (no_parent_of _ (sym parent_here ∙ (ap (parent_told xs) (sym is) ∙ new.root)))
        (no_children_of _ (sym children_here ∙ (ap (children_told xs) (sym is) ∙ new.childless)))

    module _ (gs : List (Family T)) (parent : Node T) (lives : IsLiveIn S parent) (lone : family_at fs (slot_in child) ≡ alone)
        (apart : id_in parent ≢ id_in child) (a : IsAttached fs parent (spot.LastOf parent) child gs) where
      pub kept_linked : IsTreeKept S gs
      kept_linked = kept_attached k gs parent child (spot.LastOf parent) lives live (ap (λ f. slot_of f.parent) lone)
          (λ e under. apart (one_live S parent child sound k.simple lives live
          (under_alone fs k.forest (slot_in child) e (slot_in parent) lone under))) a

      module _ (r : ChildRow) (own : r.child ≡ id_in child) (up : r.parent ≡ id_in parent) where
        linked_new : IsNewRow xs r
        linked_new = record {
          root = ap (parent_told xs) own ∙ (parent_here ∙ ap (λ f. option_map id_in f.parent) lone);
          childless = ap (children_told xs) own ∙ (children_here ∙ ap (λ f. map id_in f.children) lone);
          apart = λ is. apart (sym up ∙ (is ∙ own));
        }

        -- the parents of all nodes
        parent_same : (n : Node T) → id_in child ≡ id_in n
            → parent_told (xs ++ r ∷ []) (id_in n) ≡ option_map id_in (parent_of (tree_of S gs) n)
        parent_same n same =
            let there = live_as S child n same live in
            parent_new xs r (id_in n) (ap (parent_told xs) (sym same) ∙ (parent_here ∙ ap (λ f. option_map id_in f.parent) lone))
            (own ∙ same)
            ∙ (ap Some up ∙ sym (ap (option_map id_in) (live_parent sound kept_linked [] n there
            ∙ (ap (parent_at gs) (ap (λ i. i.slot) (sym same)) ∙ a.here))))

        parent_apart : (n : Node T) → id_in child ≢ id_in n
            → parent_told (xs ++ r ∷ []) (id_in n) ≡ option_map id_in (parent_of (tree_of S gs) n)
        parent_apart n ne = parent_old xs r (id_in n) (λ is. ne (sym own ∙ is))
            ∙ (told.parents n ∙ sym (ap (option_map id_in) (part_with (λ f. f.parent) (tree_of S fs) (tree_of S gs) n refl
            (λ there. a.parents (slot_in n) (λ is. ne (one_live S child n sound k.simple live there (sym is)))))))

        -- and their children
        children_same : (n : Node T) → id_in parent ≡ id_in n
            → children_told (xs ++ r ∷ []) (id_in n) ≡ map id_in (children_of (tree_of S gs) n)
        children_same n same =
            let there = live_as S parent n same lives in
            let at : slot_in n ≡ slot_in parent = ap (λ i. i.slot) (sym same) in
            let now : children_of (tree_of S gs) n ≡ children_at fs (slot_in n) ++ child ∷ [] =
            live_children sound kept_linked [] n there ∙ (ap (children_at gs) at
            ∙ (a.listed ∙ ap (λ s. children_at fs s ++ child ∷ []) (sym at))) in
            children_new xs r (id_in n) (up ∙ same)
            ∙ (ap (λ ys. ys ++ r.child ∷ []) (told.children n ∙ ap (map id_in) (live_children sound k [] n there))
            ∙ (ap (λ i. map id_in (children_at fs (slot_in n)) ++ i ∷ []) own
            ∙ (sym (map-append id_in (children_at fs (slot_in n)) (child ∷ [])) ∙ sym (ap (map id_in) now))))

        children_apart : (n : Node T) → id_in parent ≢ id_in n
            → children_told (xs ++ r ∷ []) (id_in n) ≡ map id_in (children_of (tree_of S gs) n)
        children_apart n ne = children_old xs r (id_in n) (λ is. ne (sym up ∙ is))
            ∙ (told.children n ∙ sym (ap (map id_in) (part_with (λ f. f.children) (tree_of S fs) (tree_of S gs) n refl
            (λ there. a.others (slot_in n) (λ is. ne (one_live S parent n sound k.simple lives there (sym is)))))))

        pub rows_linked : AreRowsOf S gs (xs ++ r ∷ [])
        rows_linked = record {
          parents = λ n. ⊎_elim (λ same. parent_same n (handle_is child n same)) (λ other. parent_apart n (other_id child n other))
              (cases_Bool (is_same child n));
          children = λ n. ⊎_elim (λ same. children_same n (handle_is parent n same))
              (λ other. children_apart n (other_id parent n other)) (cases_Bool (is_same parent n));
          fits = fit_more xs r told.fits (child, sym own, live) (parent, sym up, lives) linked_new;
        }

-- ==== links of which no node has a parent or children

-- a list of locations keeps those that it has
pub with_kept : (list : List Location) (here : Location) (i : ℕ) (l : Location) → slice_get list i ≡ Some l
    → slice_get (with_location list here) i ≡ Some l
with_kept list here i l is = by (is_among list here) refl
  where
    by : (b : Bool) → is_among list here ≡ b → slice_get (with_location list here) i ≡ Some l
    by true there = rw there is
    by false not = rw not (pushed_old list i here l is)

module _ {T : Type 0} where
  pub lone_forest : (links : List (Link T)) → AreLone links → IsForest (families links)
  lone_forest links a = record {
    once = λ s up is. absurd (none-some up (sym (ap (λ f. slot_of f.parent) (a.lone s)) ∙ is));
    only = λ s other ne. ap (λ f. count_at s f.children) (a.lone other);
    rooted = λ s. (0, ap (λ f. slot_of f.parent) (a.lone s));
  }

  pub lone_none : AreLone {T = T} []
  lone_none = record {
    linked = λ s. record { first = refl; last = refl; chain = tt };
    lone = λ s. refl;
    placed = λ s h is. absurd (none-some h is);
  }

  pub lone_after : (links new : List (Link T)) (node : Node T) → AreLone links → HasOpened links node new → AreLone new
  lone_after links new node a o = record {
    linked = o.linked;
    lone = λ s. o.opened.same s ∙ a.lone s;
    placed = λ s h is. ⊎_elim
        (λ at. ap slot_in (same_Some h node (sym is ∙ (ap (noted new) at ∙ o.noted))) ∙ sym at)
        (λ ne. a.placed s h (sym (o.others s ne) ∙ is)) (cases_eq s (slot_in node));
  }

  -- without rows each node has what is told
  pub lone_rows : (S : State T) (links : List (Link T)) → AreLone links → AreRowsOf S (families links) []
  lone_rows S links a = record {
    parents = λ n. sym (ap (λ f. option_map id_in f.parent) (alone_of n));
    children = λ n. sym (ap (λ f. map id_in f.children) (alone_of n));
    fits = fit_none S;
  }
    where
      alone_of : (n : Node T) → family_of (tree_of S (families links)) n ≡ alone
      alone_of n = ⊎_elim (λ live. live_family (tree_of S (families links)) n live ∙ a.lone (slot_in n))
          (λ gone. gone_family (tree_of S (families links)) n gone) (cases_Bool (is_live (tree_of S (families links)) n))

  pub lone_kept : (S : State T) (links : List (Link T)) → IsSimple S → AreLone links → length links ≡ slots S
      → IsTreeKept S (families links)
  lone_kept S links simple a count = record {
    simple = simple;
    whole = length-map links (family_in links) ∙ count;
    forest = lone_forest links a;
    parents = λ s up is. absurd (none-some up (sym (ap (λ f. f.parent) (a.lone s)) ∙ is));
    children = λ s k c is. absurd (none-some c (sym (ap (λ f. slice_get f.children k) (a.lone s)) ∙ is));
  }

  -- ---- and whose nodes are the cells of a store

  module _ (S : State T) where
    -- the cell of a box that is found is the store's, and live
    found_live : (b : GenerationalPointer) → box_with S b.id ≡ Some b
        → (b.id.store ≡ S.number) × (is_some (finite.get S.cells (name_of b)) ≡ true)
    found_live b is = grind arith

    pub cell_number : (b : GenerationalPointer) → box_with S b.id ≡ Some b → b.id.store ≡ S.number
    cell_number b is = (found_live b is).0

    -- two that are found at one slot are one
    one_cell : IsSimple S → (b c : GenerationalPointer) → box_with S b.id ≡ Some b → box_with S c.id ≡ Some c
        → b.id.slot ≡ c.id.slot → b ≡ c
    one_cell simple b c has found slot =
        let first = found_live b has in
        let second = found_live c found in
        let names = simple.bounded.last (name_of b) first.1 in
        let others = simple.bounded.last (name_of c) second.1 in
        let one : name_of b ≡ name_of c = names ∙ (ap (last_name S) slot ∙ sym others) in
        let same : b.id ≡ c.id = grind (arith, first.0, second.0, one) in
        same_Some b c (sym has ∙ (ap (box_with S) same ∙ found))

    -- a cell that is seen is within the slots
    abbrev node_in_cell : GenerationalPointer → Node T
    node_in_cell b = at_slot b.id.store b.id.slot 0 b.id.generation

    pub cell_within : IsSound S → IsSimple S → (b : GenerationalPointer) → is_some (value_in S b) ≡ true → b.id.slot < slots S
    cell_within sound simple b seen = live_within S (node_in_cell b) sound simple
        (sym (ap is_some (same_id_sees S b (pointer_in (node_in_cell b)) refl)) ∙ seen)

    module _ (cells : List GenerationalPointer) where
      -- the first k cells are noted
      abbrev pub AreHeld : ℕ → List (Link T) → Type 0
      AreHeld k links = (i : ℕ) (b : GenerationalPointer) → i < k → slice_get cells i ≡ Some b
          → (h : Node T) × (noted links b.id.slot ≡ Some h) × (id_in h ≡ b.id)

      pub held_more : IsSimple S
          → ((i : ℕ) (b : GenerationalPointer) → slice_get cells i ≡ Some b
          → (box_with S b.id ≡ Some b) × (is_some (value_in S b) ≡ true))
          → (k : ℕ) (old new : List (Link T)) → AreHeld k old → (c : GenerationalPointer) → slice_get cells k ≡ Some c
          → ((h : Node T) × (noted new c.id.slot ≡ Some h) × (id_in h ≡ c.id))
          → ((s : ℕ) → s ≢ c.id.slot → noted new s ≡ noted old s) → AreHeld (k + 1) new
      held_more simple live k old new held c here put others i b lt is = ⊎_elim
          (λ same. subst (λ (d : GenerationalPointer). (h : Node T) × (noted new d.id.slot ≡ Some h) × (id_in h ≡ d.id))
          (sym (one_cell simple b c (live i b is).0 (live k c here).0 same)) put)
          (λ apart.
          let was = held i b (before apart) is in (was.0, others b.id.slot apart ∙ was.1, was.2))
          (cases_eq b.id.slot c.id.slot)
        where
          before : b.id.slot ≢ c.id.slot → i < k
          before apart = ⊎_elim
              (λ same. absurd (apart (ap (λ (d : GenerationalPointer). d.id.slot)
              (same_Some b c (sym is ∙ (ap (slice_get cells) same ∙ here))))))
              (λ other. omega (arith, lt, other)) (cases_eq i k)

      -- once all cells are, each live node is noted
      pub held_noted : (links : List (Link T)) → AreLone links → (k : ℕ) → length cells ≤ k → AreHeld k links
          → ((b : GenerationalPointer) → is_some (value_in S b) ≡ true
          → (i : ℕ) × (c : GenerationalPointer) × (slice_get cells i ≡ Some c) × (c.id ≡ b.id))
          → AreNodesNoted S links
      held_noted links a k whole held every = record {
        live = λ n seen.
            let it = every (pointer_in n) seen in
            let h = held it.0 it.1 (omega (arith, slice_get_within cells it.0 it.1 it.2, whole)) it.2 in
            (h.0, ap (noted links) (ap (λ i. i.slot) (sym it.3)) ∙ h.1, h.2 ∙ it.3);
        placed = a.placed;
      }

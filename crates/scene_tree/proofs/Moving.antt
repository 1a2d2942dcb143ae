-- What moves, what is walked, and what stays.
pub mod Trees
use Rattle.std.specs.FinMap as map
use Rattle.std.specs.{Cmp.IsEquivalence, List.IsDistinct, Ordering.eq_by_cmp}
use Rattle.std.specs.Prelude.{map as list_map}
use Rattle.std.proofs.lemmas.Map.Made.{length-from_same_keys}
use Rattle.generational_core.proofs.maps.Maps.{keys_apart, len_keys, name_test}
use Rattle.generational_core.specs.{Cells.refers_to}
unfoldable use Rattle.generational_core.specs.{Names.is_name, State.is_named}
use Rattle.generational_core.specs.Cells.Cell.{Ref, Shared}
use Rattle.generational_core.specs.Cells.Content.{Here, Lent}
use Rattle.scene_tree.specs.declared.spot.Spot.TheVariants as spot
unfoldable pub use Trees.*

-- ==== walks: from parent to parent up to a root, and over the nodes of all slots

module _ {T : Type 0} (fs : List (Family T)) where
  way_none : (n : ℕ) → way_up fs n None ≡ []
  way_none n = grind arith

  -- enough steps are enough
  way_enough : (n m d : ℕ) (node : Node T) → IsRooted fs d (slot_in node) → d ≤ n → d ≤ m
      → way_up fs n (parent_at fs (slot_in node)) ≡ way_up fs m (parent_at fs (slot_in node))
  way_enough (suc n) (suc m) (suc d) node r lt more =
      let up = above_parent fs (slot_in node) r.0 r.1 in grind (arith, way_enough n m d up.0)
  way_enough n m d node r lt more = grind (arith, way_none)

  module _ (f : IsForest fs) where
    -- the first node of a way is met, and then those above it
    pub way_next : (node : Node T) → slot_in node < length fs → way_up fs (length fs) (Some node)
        ≡ node ∷ way_up fs (length fs) (parent_at fs (slot_in node))
    way_next node lt =
        let r = f.rooted (slot_in node) in
        let deep = depth_within fs f r.0 (slot_in node) r.1 lt in by (length fs) r deep
      where
        by : (n : ℕ) (r : (d : ℕ) × IsRooted fs d (slot_in node)) → r.0 < n
            → way_up fs n (Some node) ≡ node ∷ way_up fs n (parent_at fs (slot_in node))
        by zero r lt = absurd (omega arith)
        by (suc n) r lt = grind (arith, way_enough n (suc n) r.0 node)

    -- and these have slots too
    pub next_within : (slot : ℕ) → IsNodeWithin fs (parent_at fs slot)
    next_within slot = at (parent_at fs slot) refl
      where
        at : (o : Option (Node T)) → parent_at fs slot ≡ o → IsNodeWithin fs o
        at None is = tt
        at (Some up) is = above_within fs f slot (slot_in up) (ap slot_of is)

-- a list from an item on
pub drop_read : {X : Type 0} (xs : List X) (i : ℕ) (x : X) → slice_get xs i ≡ Some x → drop i xs ≡ x ∷ drop (i + 1) xs
drop_read [] i x is = grind arith
drop_read (y ∷ xs) zero x is = grind arith
drop_read (y ∷ xs) (suc i) x is = grind (arith, drop_read xs i x is)

-- the way from a live node's parent on has its ancestors
module _ {T : Type 0} {S : State T} {fs : List (Family T)} (sound : IsSound S) (k : IsTreeKept S fs)
    (sites : List Location) where
  abbrev walked : TreeState T
  walked = record { state = S; families = fs; sites = sites }

  way_ancestors : (n d : ℕ) (node : Node T) → IsLiveIn S node → IsRooted fs d (slot_in node) → d ≤ n
      → (o : Option (Node T)) → parent_at fs (slot_in node) ≡ o
      → AreAncestors walked node (way_up fs n o)
  way_ancestors n d node live r le None is = rw (way_none fs n) (live_parent sound k sites node live ∙ is)
  way_ancestors zero d node live r le (Some up) is = grind arith
  way_ancestors (suc n) d node live r le (Some up) is =
      let less = rooted_up fs d (slot_in node) (slot_in up) (ap slot_of is) r in
      let one = less.1 in (
        live_parent sound k sites node live ∙ is,
        way_ancestors n less.0 up (k.parents (slot_in node) up is) less.2 (omega (arith, le, one))
            (parent_at fs (slot_in up)) refl,
      )

  pub ancestors_of : (node : Node T) → IsLiveIn S node → slot_in node < length fs
      → AreAncestors walked node (way_up fs (length fs) (parent_at fs (slot_in node)))
  ancestors_of node live lt =
      let r = k.forest.rooted (slot_in node) in
      grind (arith, way_ancestors, depth_within fs k.forest r.0 (slot_in node) r.1 lt)

module _ {T : Type 0} (S : State T) (roots : Bool) where
  -- what is noted from a slot on is of its slot
  abbrev ArePlaced : List (Link T) → ℕ → Type 0
  ArePlaced links k = (i : ℕ) (h : Node T) → noted links i ≡ Some h → slot_in h ≡ k + i

  placed_rest : (l : Link T) (links : List (Link T)) (k : ℕ) → ArePlaced (l ∷ links) k
      → ArePlaced links (suc k)
  placed_rest l links k placed_row i h is =
      let at = placed_row (suc i) h is in omega (arith, at)

  met_below : (links : List (Link T)) (k : ℕ) → ArePlaced links k → (n : Node T) → slot_in n < k
      → times n (met S roots links) ≡ 0
  met_below [] k placed_row n lt = refl
  met_below (l ∷ links) k placed_row n lt =
      let rest = met_below links (suc k) (placed_rest l links k placed_row) n (omega (arith, lt)) in
      let here = placed_row 0 l.node refl in
      grind (arith, times_apart n l.node (met S roots links), same_slot l.node n)

  -- how many times a node is met whose slot has a link, or none
  abbrev met_at : Node T → Option (Link T) → ℕ
  met_at n None = 0
  met_at n (Some l) = cond (is_met S roots l && is_same l.node n) 1 0

  met_times : (links : List (Link T)) (k i : ℕ) → ArePlaced links k → (n : Node T)
      → slot_in n ≡ k + i → times n (met S roots links) ≡ met_at n (slice_get links i)
  met_times [] k i placed_row n at = refl
  met_times (l ∷ links) k zero placed_row n at =
      let rest = met_below links (suc k) (placed_rest l links k placed_row) n (omega (arith, at)) in
      let more = times_more n l.node (met S roots links) in
      grind (arith, times_apart n l.node (met S roots links))
  met_times (l ∷ links) k (suc i) placed_row n at =
      let here = placed_row 0 l.node refl in
      let rest = met_times links (suc k) i (placed_rest l links k placed_row) n (omega (arith, at)) in
      grind (arith, times_apart n l.node (met S roots links), same_slot l.node n)

  met_some : (n : Node T) (o : Option (Link T)) → 0 < met_at n o
      → (l : Link T) × (o ≡ Some l) × (is_met S roots l ≡ true) × (is_same l.node n ≡ true)
  met_some n None lt = absurd (omega (arith, lt))
  met_some n (Some l) lt = (l, refl, grind arith, grind arith)

-- lists of nodes: one is in a list if it is there some times, and a list is of different nodes if each
-- is there once
module _ {T : Type 0} where
  same_equivalence : IsEquivalence (is_same {T = T} {K = NodeKind})
  same_equivalence = record {
    refl = λ a. grind arith;
    symm = λ a b. grind arith;
    congr = λ a b c h. grind arith;
  }

  times_any : (n : Node T) (list : List (Node T)) → 0 < times n list → list_any (is_same n) list ≡ true
  times_any n [] some = grind arith
  times_any n (c ∷ list) some =
      grind (arith, times_any n list, times_apart n c list, same_equivalence.symm n c)

  any_times : (n : Node T) (list : List (Node T)) → list_any (is_same n) list ≡ true → 0 < times n list
  any_times n [] some = grind arith
  any_times n (c ∷ list) some = grind (
    arith,
    any_times n list,
    times_apart n c list,
    times_more n c list,
    same_equivalence.symm n c,
  )

  once_apart : (list : List (Node T)) → ((n : Node T) → times n list ≤ 1) → IsDistinct is_same list
  unfolding IsDistinct
  once_apart [] once = tt
  once_apart (c ∷ list) once = (
    none c list (grind (arith, once c, times_more c c list, same_equivalence.refl c)),
    once_apart list (λ n. grind (arith, once n, times_apart n c list, times_more n c list)),
  )
    where
      none : (c : Node T) (list : List (Node T)) → times c list ≡ 0
          → AllByRecursion (λ n. is_same c n ≡ false) list
      none c [] absent = tt
      none c (n ∷ list) absent = (
        grind (arith, times_more c n list, same_equivalence.symm c n),
        none c list (grind (arith, times_more c n list, times_apart c n list)),
      )

module _ {T : Type 0} {S : State T} (sound : IsSound S) (links : List (Link T)) (k : IsTreeKept S (families links))
    (a : AreNodesNoted S links) (sites : List Location) where
  abbrev met_tree : TreeState T
  met_tree = record { state = S; families = families links; sites = sites }

  placed_row : (i : ℕ) (h : Node T) → noted links i ≡ Some h → slot_in h ≡ 0 + i
  placed_row i h is = let at = a.placed i h is in omega (arith, at)

  met_is : (roots : Bool) (n : Node T)
      → times n (met S roots links) ≡ met_at S roots n (slice_get links (slot_in n))
  met_is roots n = met_times S roots links 0 (slot_in n) placed_row n (omega arith)

  -- a node is yielded if its slot's link is of it, and is yielded
  from_link : (roots : Bool) (n : Node T) → 0 < times n (met S roots links) → (l : Link T)
      × (slice_get links (slot_in n) ≡ Some l) × (is_met S roots l ≡ true)
      × (is_same l.node n ≡ true)
  from_link roots n some =
      met_some S roots n (slice_get links (slot_in n)) (subst (λ k. 0 < k) (met_is roots n) some)

  -- a live node has a link
  has_link : (n : Node T) → IsLiveIn S n → (l : Link T) × (slice_get links (slot_in n) ≡ Some l)
      × IsSame l.node n
  has_link n live = let h = a.live n live in at (slice_get links (slot_in n)) h.1 h.2
    where
      at : {h : Node T} (o : Option (Link T)) → node_in o ≡ Some h → IsSame h n
          → (l : Link T) × (o ≡ Some l) × IsSame l.node n
      at None is same = absurd (none-some _ is)
      at (Some l) is same = (l, refl, grind arith)

  -- its parent is the link's
  link_parent : (n : Node T) → IsLiveIn S n → (l : Link T) → slice_get links (slot_in n) ≡ Some l
      → parent_of met_tree n ≡ l.parent
  link_parent n live l there = live_parent sound k sites n live ∙ (parent_from links (slot_in n) ∙ ap upper there)

  sees : (l : Link T) (n : Node T) → IsSame l.node n
      → value_in S (pointer_in l.node) ≡ value_in S (pointer_in n)
  sees l n = same_id_sees S (pointer_in l.node) (pointer_in n)

  pub all_met : AreAll met_tree (met S false links)
  all_met = record {
    live = λ n. (
      λ some. let l = from_link false n some in grind (arith, sees l.0 n, is_id l.0.node n),
      λ live. let l = has_link n live in
          grind (arith, met_is false n, sees l.0 n, same_id l.0.node n),
    );
    once = λ n. grind (arith, met_is false n);
  }

  pub roots_met : AreRoots met_tree (met S true links)
  roots_met = record {
    roots = λ n. (
      λ some. let l = from_link true n some in
          grind (arith, sees l.0 n, is_id l.0.node n, link_parent n),
      λ root. let l = has_link n root.0 in
          grind (arith, met_is true n, link_parent n root.0 l.0, sees l.0 n, same_id l.0.node n),
    );
    once = λ n. grind (arith, met_is true n);
  }

  -- ---- as many are met as cells are live

  -- no cell is a reference, and so none is named by one
  none_named : (q : Name) (ns : List Name)
      → list_any (λ n. refers_to q (map.get S.cells n)) ns ≡ true → ⊥
  none_named q [] named = grind arith
  none_named q (n ∷ ns) named = grind (arith, none_named q ns, refers q n)
    where
      refers : (q n : Name) → refers_to q (map.get S.cells n) ≡ false
      refers q n = grind (arith, k.simple.plain.none n)

  -- the node with a name
  abbrev node_named : Name → Node T
  node_named q = at_slot S.number q.slot 0 q.generation

  -- it is live if its cell is there
  named_live : (q : Name) → map.contains_key S.cells q ≡ true → IsLiveIn S (node_named q)
  unfolding value_in reach is_named
  named_live q there = at (map.get S.cells q) refl there
    where
      at : (c : Option (Cell T)) → map.get S.cells q ≡ c → is_some c ≡ true → IsLiveIn S (node_named q)
      at None is some = absurd (true≢false (sym some))
      at (Some (Value (Here v readers) l)) is some = grind arith
      at (Some (Value (Lent w) l)) is some = grind (arith, k.simple.unborrowed.none q)
      at (Some (Shared c l)) is some =
          absurd (none_named q (map.keys S.cells) (sound.shared q (grind arith)))
      at (Some (Ref m l)) is some = absurd (k.simple.plain.none q m l is)

  -- a live node is in a list of nodes with names if its name is in theirs
  in_named : (n : Node T) (qs : List Name) → (pointer_in n).id.store ≡ S.number
      → list_any (is_same n) (list_map node_named qs)
      ≡ list_any (eq_by_cmp name_cmp (name_of (pointer_in n))) qs
  unfolding is_name
  in_named n [] own = refl
  in_named n (q ∷ qs) own = grind (arith, in_named n qs own, name_test (name_of (pointer_in n)) q)

  not_in_named : (n : Node T) (qs : List Name) → (pointer_in n).id.store ≢ S.number
      → list_any (is_same n) (list_map node_named qs) ≡ false
  not_in_named n [] other = refl
  not_in_named n (q ∷ qs) other = grind (arith, not_in_named n qs other)

  named_apart : (qs : List Name) → IsDistinct is_name qs → IsDistinct is_same (list_map node_named qs)
  unfolding IsDistinct
  named_apart [] d = tt
  named_apart (q ∷ qs) d = (apart q qs d.0, named_apart qs d.1)
    where
      apart : (q : Name) (qs : List Name) → AllByRecursion (λ r. is_name q r ≡ false) qs
          → AllByRecursion (λ n. is_same (node_named q) n ≡ false) (list_map node_named qs)
      apart q [] d = tt
      apart q (r ∷ qs) d = (grind (arith, name_test q r, d.0), apart q qs d.1)

  -- so the live nodes and the cells are as many
  pub met_count : length (met S false links) ≡ map.len S.cells
  unfolding is_name
  met_count = length-from_same_keys same_equivalence (met S false links) (list_map node_named (map.keys S.cells))
      (once_apart (met S false links) all_met.once)
      (named_apart (map.keys S.cells) (keys_apart name_cmp S.cells)) among_both
      ∙ length-map (map.keys S.cells) node_named ∙ sym (len_keys name_cmp S.cells)
    where
      sees_named : (n : Node T) → (pointer_in n).id.store ≡ S.number
          → value_in S (pointer_in (node_named (name_of (pointer_in n)))) ≡ value_in S (pointer_in n)
      sees_named n own = same_id_sees S (pointer_in (node_named (name_of (pointer_in n)))) (pointer_in n)
          (grind arith)

      among_both : (n : Node T) → list_any (is_same n) (met S false links)
          ≡ list_any (is_same n) (list_map node_named (map.keys S.cells))
      among_both n = grind (
        arith,
        times_any n (met S false links),
        any_times n (met S false links),
        all_met.live n,
        in_named n (map.keys S.cells),
        not_in_named n (map.keys S.cells),
        seen_store S (pointer_in n) sound,
        seen_cell S (pointer_in n),
        map.contains_key-keys S.cells (name_of (pointer_in n)),
        named_live (name_of (pointer_in n)),
        sees_named n,
      )

-- ==== a tree's store and families after each of its calls

-- what is never some is none, and a list without a first item is empty
no_some : {X : Type 0} (o : Option X) → ((x : X) → o ≢ Some x) → o ≡ None
no_some o never = grind arith

no_item : {X : Type 0} (xs : List X) → ((x : X) (rest : List X) → xs ≢ x ∷ rest) → xs ≡ []
no_item [] never = refl
no_item (x ∷ xs) never = absurd (never x xs refl)

-- what holds of each item holds of each that a filter leaves
filtered : {X : Type 0} (P : X → Type 0) (test : X → Bool) (xs : List X) → Each P xs
    → Each P (filter test xs)
filtered P test [] each k x at = each k x at
filtered P test (y ∷ xs) each zero x at =
    grind (arith, filtered P test xs (λ i. each (suc i)) zero, each 0)
filtered P test (y ∷ xs) each (suc k) x at = grind (arith, filtered P test xs (λ i. each (suc i)))

module _ {T : Type 0} where
  pub fresh_kept : (number start next : ℕ) → IsTreeKept (fresh {T = T} number start next) []
  fresh_kept number start next = record {
    simple = fresh_simple number start next;
    whole = sym (ap map.len no_slots ∙ map.len-empty nat_cmp ℕ);
    forest = search arith;
    parents = λ s up is. absurd (none-some up is);
    children = λ s k c is. absurd (none-some c is);
  }

  module _ {S : State T} {fs : List (Family T)} (k : IsTreeKept S fs) where
    -- a slot without a live node is alone
    pub lone : (slot : ℕ) → ((n : Node T) → IsLiveIn S n → slot_in n ≢ slot) → family_at fs slot ≡ alone
    lone slot none = λ i. record { parent = no_some _ root i; children = no_item _ childless i }
      where
        root : (up : Node T) → parent_at fs slot ≢ Some up
        root up is =
            let one = k.forest.once slot (slot_in up) (ap slot_of is) in
            let there = counted slot (children_at fs (slot_in up)) (omega (arith, one)) in
            none there.1 (k.children (slot_in up) there.0 there.1 there.2) there.3

        childless : (c : Node T) (cs : List (Node T)) → children_at fs slot ≢ c ∷ cs
        childless c cs is =
            let over = parent_is fs k.forest slot 0 c (ap (λ xs. slice_get xs 0) is) in
            let up = above_parent fs (slot_in c) slot over in none up.0 (k.parents (slot_in c) up.0 up.1) up.2

    -- the same families over a store in which all live nodes are live
    pub kept_same : {R : State T} (gs : List (Family T)) → IsSimple R → length gs ≡ slots R
        → ((s : ℕ) → family_at gs s ≡ family_at fs s)
        → ((n : Node T) → IsLiveIn S n → IsLiveIn R n) → IsTreeKept R gs
    kept_same gs simple whole same live = grind (arith, same_forest fs gs k.forest same)

    -- the same families if the same nodes are live
    pub kept_still : {R : State T} → IsSimple R → slots R ≡ slots S
        → ((n : Node T) → is_some (value_in R (pointer_in n)) ≡ is_some (value_in S (pointer_in n)))
        → IsTreeKept R fs
    kept_still simple same live = grind arith

    -- a slot that was opened for a new node
    module _ {R : State T} (sound : IsSound S) (v : T) (l : Location) (b : GenerationalPointer)
        (m : Meets S (Make None v l) (Made b) R) (gs : List (Family T)) (o : IsOpened fs b.id.slot gs) where
      pub opened_same : (s : ℕ) → family_at gs s ≡ family_at fs s
      opened_same = o.same

      opened_whole : length gs ≡ slots R
      opened_whole = grind (arith, made_slots sound k.simple v l b m)

      pub opened_within : b.id.slot < length gs
      opened_within = grind arith

      pub kept_opened : IsTreeKept R gs
      kept_opened = kept_same gs (made_simple sound k.simple v l b m) opened_whole opened_same
          (λ n live. ap is_some (same_value S R (Make None v l) (Made b) sound m (pointer_in n) tt
          (λ is. made_beside sound k.simple v l b m n live (sym (ap (λ n. n.slot) is)))) ∙ live)

      -- the new node has neither parent nor children
      pub opened_alone : family_at gs b.id.slot ≡ alone
      opened_alone = opened_same b.id.slot ∙ lone b.id.slot (made_beside sound k.simple v l b m)

    -- a node that was made a child of another
    pub kept_attached : (gs : List (Family T)) (parent child : Node T) (spot : Spot T) → IsLiveIn S parent
        → IsLiveIn S child → above fs (slot_in child) ≡ None
        → ((e : ℕ) → IsUnder fs (slot_in child) e (slot_in parent) → ⊥)
        → IsAttached fs parent spot child gs → IsTreeKept S gs
    kept_attached gs parent child spot live lives root apart new =
        grind (arith, attached, each)
      where
        each : (s : ℕ) → Each (IsLiveIn S) (placed spot child (children_at fs s))
        each s = placed_each (IsLiveIn S) spot (children_at fs s) child lives (k.children s)

    -- a node that was taken out of its parent's children
    pub alike : IsSound S → (child : Node T) → IsLiveIn S child → (s i : ℕ) (x : Node T)
        → slice_get (children_at fs s) i ≡ Some x → slot_in x ≡ slot_in child → is_same x child ≡ true
    alike sound child live s i x at same =
        same_id x child (one_live S x child sound k.simple (k.children s i x at) live same)

    sibling_in : (sites : List Location) → IsSound S → (by up : Node T)
        → parent_of (record { state = S; families = fs; sites = sites }) by ≡ Some up
        → IsAmong (children_at fs (slot_in up)) by
    sibling_in sites sound by up is =
        let has = has_parent sound k sites by up is in among by (children_at fs (slot_in up))
        (grind (arith, k.forest.once (slot_in by) (slot_in up))) (alike sound by has.0 (slot_in up))

    -- a sibling that a spot names is among the children of its parent
    pub spot_in : (sites : List Location) → IsSound S → (at : Spot T) (up : Node T)
        → parent_for (record { state = S; families = fs; sites = sites }) at ≡ Some up
        → IsSpotIn (children_at fs (slot_in up)) at
    spot_in sites sound to up is = grind (arith, sibling_in sites)

    pub kept_detached : IsSound S → (gs : List (Family T)) (child : Node T) → IsLiveIn S child
        → IsDetached fs child gs → IsTreeKept S gs
    kept_detached sound gs child live new = grind (arith, detached, alike, each)
      where
        each : (s : ℕ) → Each (IsLiveIn S) (children_at gs s)
        each s = ⊎_elim (λ is. rw (new.lost s is)
            (filtered (IsLiveIn S) _ (children_at fs s) (k.children s)))
            (λ ne. rw (new.others s ne) (k.children s)) (slot_cases (above fs (slot_in child)) s)

    -- nodes that were detached, with all that are below them and none above, and whose values were
    -- removed
    module _ (R : State T) (gs : List (Family T)) (list : List (Node T)) (c : IsCleared fs gs list)
        (down : (s up : ℕ) → above fs s ≡ Some up → 0 < count_at up list → 0 < count_at s list)
        (upward : (s up : ℕ) → above fs s ≡ Some up → 0 < count_at s list → 0 < count_at up list)
        (live : (n : Node T) → count_at (slot_in n) list ≡ 0 → IsLiveIn S n → IsLiveIn R n) where
      out : (s : ℕ) → (0 < count_at s list → ⊥) → count_at s list ≡ 0
      out s never = ⊎_elim (λ lt. absurd (never lt)) (λ le. omega (arith, le)) (cases_lt 0 (count_at s list))

      pub kept_cleared : IsSimple R → length gs ≡ slots R → IsTreeKept R gs
      kept_cleared simple whole = record {
        simple = simple;
        whole = whole;
        forest = cleared fs gs k.forest list c down upward;
        parents = λ s up is. grind (arith, live up, k.parents s up, c.cleared s, c.others s, down s (slot_in up), out);
        children =
            λ s i x is. grind (arith, live x, k.children s i x, c.cleared s, c.others s, parent_is fs k.forest s i x, out);
      }

  -- ---- a new node, whose cell was made

  module _ {S R : State T} (v : T) (l : Location) (n : Node T) (h : HasMade S v l n R) where
    pub made_shown : value_in R (pointer_in n) ≡ Some v
    made_shown = same_id_sees R (pointer_in n) h.0 h.2 ∙ (meets_tells S R (Make None v l) (Made h.0) h.1).1

    pub made_given : IsGiven R (name_of (pointer_in n))
    made_given = subst (λ id. IsGiven R (name_in id)) (sym h.2) (made_new S R (Make None v l) h.0 h.1).2

    pub made_fresh : IsGiven S (name_of (pointer_in n)) → ⊥
    made_fresh was = true≢false (sym (subst (λ id. IsGiven S (name_in id)) h.2 was)
        ∙ (made_new S R (Make None v l) h.0 h.1).1)

    pub made_number : number_in n ≡ S.number
    made_number = ap (λ i. i.store) h.2 ∙ (made_new S R (Make None v l) h.0 h.1).0

  module _ {S R : State T} (sound : IsSound S) (v : T) (l : Location) (n : Node T) (h : HasMade S v l n R) where
    pub made_others : (f : Node T) → IsOther n f → value_in R (pointer_in f) ≡ value_in S (pointer_in f)
    made_others f other = others_left _ _ h.1 h.0 (pointer_in f) (made_new S R (Make None v l) h.0 h.1).0
        (same_value S R (Make None v l) (Made h.0) sound h.1 (pointer_in f) tt) (λ same. other (h.2 ∙ same))

    pub made_left : (f : Node T) → IsGiven S (name_of (pointer_in f))
        → value_in R (pointer_in f) ≡ value_in S (pointer_in f)
    made_left f was = same_value S R (Make None v l) (Made h.0) sound h.1 (pointer_in f) tt
        (given_other S R (Make None v l) (Made h.0) (pointer_in f) h.1 was)

  module _ {S R : State T} {fs : List (Family T)} (k : IsTreeKept S fs) (sound : IsSound S) (v : T) (l : Location)
      (n : Node T) (h : HasMade S v l n R) where
    pub made_apart : (f : Node T) → IsLiveIn S f → slot_in f ≢ slot_in n
    made_apart f live is = made_beside sound k.simple v l h.0 h.1 f live (is ∙ ap (λ i. i.slot) h.2)

    pub made_one_more : map.len R.cells ≡ map.len S.cells + 1
    made_one_more = made_count sound k.simple v l h.0 h.1

    pub made_is_simple : IsSimple R
    made_is_simple = made_simple sound k.simple v l h.0 h.1

    module _ (gs : List (Family T)) (o : IsOpened fs (slot_in n) gs) where
      opened_at : IsOpened fs h.0.id.slot gs
      opened_at = subst (λ (i : GenerationalBoxId). IsOpened fs i.slot gs) h.2 o

      pub new_kept : IsTreeKept R gs
      new_kept = kept_opened k sound v l h.0 h.1 gs opened_at

      pub new_alone : family_at gs (slot_in n) ≡ alone
      new_alone = ap (family_at gs) (ap (λ i. i.slot) h.2) ∙ opened_alone k sound v l h.0 h.1 gs opened_at

      pub new_within : slot_in n < length gs
      new_within = subst (λ (i : GenerationalBoxId). i.slot < length gs) (sym h.2)
          (opened_within k sound v l h.0 h.1 gs opened_at)

  -- both: a new child
  module _ {S R : State T} {fs : List (Family T)} (k : IsTreeKept S fs) (sound : IsSound S) (v : T) (l : Location)
      (sites : List Location) (parent child : Node T) (spot : Spot T) (h : HasMade S v l child R)
      (live : IsLiveIn S parent)
      (is : parent_for (record { state = S; families = fs; sites = sites }) spot ≡ Some parent)
      (gs hs : List (Family T)) (o : IsOpened fs (slot_in child) gs)
      (a : IsAttached gs parent spot child hs) where
    apart : (n : Node T) → IsLiveIn S n → slot_in n ≢ slot_in child
    apart = made_apart k sound v l child h

    lone_child : family_at gs (slot_in child) ≡ alone
    lone_child = new_alone k sound v l child h gs o

    -- a live node is left
    left : (n : Node T) → IsLiveIn S n → value_in R (pointer_in n) ≡ value_in S (pointer_in n)
    left n lives = same_value S R (Make None v l) (Made h.0) sound h.1 (pointer_in n) tt
        (λ is. apart n lives (sym (ap (λ q. q.slot) is) ∙ sym (ap (λ i. i.slot) h.2)))

    shown : IsLiveIn R child
    shown = ap is_some (made_shown v l child h)

    pub kept_added : IsTreeKept R hs
    kept_added =
        let opened = new_kept k sound v l child h gs o in
        kept_attached opened hs parent child spot (ap is_some (left parent live) ∙ live) shown
        (ap (λ x. slot_of x.parent) lone_child) (λ e under. apart parent live
        (under_alone gs opened.forest (slot_in child) e (slot_in parent) lone_child under)) a

    module _ (now : List Location) where
      abbrev old : TreeState T
      old = record { state = S; families = fs; sites = sites }

      abbrev new : TreeState T
      new = record { state = R; families = hs; sites = now }

      pub added_child : family_of new child ≡ record { parent = parent_for old spot; children = [] }
      added_child = rw is (grind (arith, live_family, shown, apart, lone_child))

      pub added_parent : (up : Node T) → parent_for old spot ≡ Some up
          → (value_of new up ≡ value_of old up) × (family_of new up ≡ record {
            parent = parent_of old up;
            children = placed spot child (children_of old up);
          })
      added_parent up some =
          grind (arith, same_Some, live_parent, live_children, left, live_family, apart)

      pub added_others : (n : Node T) → IsOther child n
          → ((up : Node T) → parent_for old spot ≡ Some up → IsOther up n) → NodeIsUnchanged old n new
      added_others n other beside = left_with old new n
          (made_others sound v l child h n other)
          (λ lives. let off = one_live S parent n sound k.simple live lives in
          let to = beside parent is in
          let same = o.same (slot_in n) in
          grind (arith, a.parents (slot_in n) (apart n lives), a.others (slot_in n)))

  module _ {S : State T} (links : List (Link T)) (sound : IsSound S) (k : IsTreeKept S (families links)) where
    -- a live node's slot has links
    pub live_slot : (n : Node T) → IsLiveIn S n → slot_in n < length links
    live_slot n live = grind (arith, live_within S n sound k.simple live, length-map links (family_in links))

    -- a new node's has, or is the next one, and has no parent
    module _ {R : State T} (v : T) (l : Location) (b : GenerationalPointer)
        (m : Meets S (Make None v l) (Made b) R) where
      pub next_root : above (families links) b.id.slot ≡ None
      next_root = ap (λ f. slot_of f.parent) (lone k b.id.slot (made_beside sound k.simple v l b m))

      pub next_within_links : b.id.slot ≤ length links
      next_within_links = grind (
        arith,
        cell_within S (name_of b) k.simple.bounded (making {S = S} {R = R} v l b m).fits,
        k.whole,
        length-map links (family_in links),
      )

-- links that stayed are kept as they were
module _ {T : Type 0} {S R : State T} (sound : IsSound S) (node : Node T) (b : GenerationalPointer)
    (own : b.id ≡ id_in node) (v old : T) (m : Meets S (SetValue b v) (Old old) R) where
  pub set_still : {links : List (Link T)} {number : ℕ}
      → IsTreeKept S (families links) × AreChildrenLinked links × AreNodesNoted S links × (number ≡ S.number)
      → IsTreeKept R (families links) × AreChildrenLinked links × AreNodesNoted R links × (number ≡ R.number)
  set_still was = (
    kept_still was.0 (simple_still sound was.0.simple _ _ m tt tt) (same_slots _ _ refl m) seen,
    was.1,
    noted_left was.2 (λ s. refl) (λ n now. sym (seen n) ∙ now),
    was.3 ∙ sym (meets_number S R (SetValue b v) (Old old) m),
  )
    where
      seen : (n : Node T) → is_some (value_in R (pointer_in n)) ≡ is_some (value_in S (pointer_in n))
      seen n = set_seen sound was.0.simple.unborrowed _ _ _ m (pointer_in n)

  -- the node has the old value, and then the new one
  pub set_shows : (value_in S (pointer_in node) ≡ Some old) × (value_in R (pointer_in node) ≡ Some v)
  set_shows =
      let sees = sets b v old m in (
        sym (same_id_sees S b (pointer_in node) own) ∙ sees.0,
        sym (same_id_sees R b (pointer_in node) own) ∙ sees.2 b refl,
      )

  pub set_others : IsSimple S → (fs : List (Family T)) (sites : List Location) (n : Node T) → IsOther node n
      → NodeIsUnchanged (record { state = S; families = fs; sites = sites }) n
      (record { state = R; families = fs; sites = sites })
  set_others simple fs sites n other =
      let before = (sets b v old m).0 in
      let to = seen_reached S b old before in
      left_with _ _ n (others_left _ _ m b (pointer_in n) (seen_store _ _ sound (ap is_some before))
      (λ ne. same_value _ _ _ _ sound m _
      (λ same. ne (reach_apart _ simple.plain _ _ to.0 to.1 (sym same))) tt) (λ same. other (sym own ∙ same)))
      (λ live. refl)

-- ==== a tree in which a node was moved, was made a root, or was removed with all below it

module _ {T : Type 0} {S : State T} {fs gs : List (Family T)} (sites : List Location) (sound : IsSound S)
    (k : IsTreeKept S fs) (node : Node T) (live : IsLiveIn S node) (d : IsDetached fs node gs) where
  abbrev moved_tree : TreeState T
  moved_tree = record { state = S; families = fs; sites = sites }

  abbrev freed : TreeState T
  freed = record { state = S; families = gs; sites = sites }

  -- each other node has the parent that it had, and each but its parent the children
  parents_left : (n : Node T) → IsOther node n → IsLiveIn S n → parent_at gs (slot_in n) ≡ parent_at fs (slot_in n)
  parents_left n other lives = grind (arith, one_live)

  children_left : (n : Node T) → ((up : Node T) → parent_of moved_tree node ≡ Some up → IsOther up n) → IsLiveIn S n
      → children_at gs (slot_in n) ≡ children_at fs (slot_in n)
  children_left n beside lives =
      d.others (slot_in n) (λ is. let p = above_parent fs (slot_in node) (slot_in n) is in
      beside p.0 (live_parent sound k sites node live ∙ p.1)
      (one_live S p.0 n sound k.simple (k.parents (slot_in node) p.0 p.1) lives p.2))

  pub freed_others : (n : Node T) → ((up : Node T) → parent_of moved_tree node ≡ Some up → IsOther up n)
      → children_of freed n ≡ children_of moved_tree n
  freed_others n beside = part_with (λ f. f.children) moved_tree freed n refl (children_left n beside)

  -- a spot that isn't the node's or of what is below it stays
  sibling_left : (by up : Node T) → parent_of moved_tree by ≡ Some up → (IsBelow moved_tree node by → ⊥)
      → IsAmong (children_at gs (slot_in up)) by
  sibling_left by up is apart =
      let has = has_parent sound k sites by up is in
      let left = kept_detached k sound gs node live d in
      let parent = parents_left by (λ same. apart (0, sym same)) has.0 in
      among by (children_at gs (slot_in up))
      (grind (arith, left.forest.once (slot_in by) (slot_in up)))
      (alike left sound by has.0 (slot_in up))

  pub spot_left : (at : Spot T) (up : Node T) → parent_for moved_tree at ≡ Some up
      → (IsBelow moved_tree node (named at) → ⊥) → IsSpotIn (children_at gs (slot_in up)) at
  spot_left to up is apart = grind (arith, sibling_left)

  module _ {hs : List (Family T)} (parent : Node T) (at : Spot T) (may : CanMove moved_tree node parent)
      (is : parent_for moved_tree at ≡ Some parent) (a : IsAttached gs parent at node hs) where
    abbrev moved : TreeState T
    moved = record { state = S; families = hs; sites = sites }

    -- what is under the node once it is detached was so before
    under_before : (e s : ℕ) → IsUnder gs (slot_in node) e s → IsUnder fs (slot_in node) e s
    under_before zero s under = under
    under_before (suc e) s under = grind (arith, under_before e under.0 under.2, cases_eq s (slot_in node))

    pub kept_moved : IsTreeKept S hs
    kept_moved =
        let left = kept_detached k sound gs node live d in
        let below = under_below sound k sites node live in
        kept_attached left hs parent node at may.parent live (ap slot_of d.here)
        (λ e under. may.apart (e, below e parent may.parent (under_before e (slot_in parent) under))) a

    -- the node is at its spot, and was removed from its old position
    pub moved_placed : (up : Node T) → parent_for moved_tree at ≡ Some up
        → children_of moved up ≡ placed at node (without node (children_of moved_tree up))
    moved_placed up some = rw (same_Some up parent (sym some ∙ is))
        (grind (arith, live_family, same_without, slot_cases, live_children))

    -- a live node other than the parent has another slot
    not_parent : (n : Node T) → IsOther parent n → IsLiveIn S n → slot_in n ≢ slot_in parent
    not_parent n other lives is = other (one_live S parent n sound k.simple may.parent lives (sym is))

    pub moved_others : (n : Node T) → ((to : Node T) → parent_for moved_tree at ≡ Some to → IsOther to n)
        → ((up : Node T) → parent_of moved_tree node ≡ Some up → IsOther up n)
        → children_of moved n ≡ children_of moved_tree n
    moved_others n other beside =
        grind (arith, not_parent n (other parent is), freed_others n beside)

-- what may be put beside a sibling may become a child of its parent
pub move_within : {T : Type 0} (t : TreeState T) (node : Node T) (at : Spot T) (up : Node T)
    → CanMove t node (named at) → is_live t up ≡ true → parent_for t at ≡ Some up → CanMove t node up
move_within {T} t node at up may live is =
    record { node = may.node; parent = live; apart = λ below. may.apart (lower at is below) }
  where
    lower : (by : Spot T) → parent_for t by ≡ Some up → IsBelow t node up
        → IsBelow t node (named by)
    lower (spot.FirstOf parent) is below =
        subst (IsBelow t node) (sym (same_Some parent up is)) below
    lower (spot.LastOf parent) is below =
        subst (IsBelow t node) (sym (same_Some parent up is)) below
    lower (spot.Before sibling) is below = (suc below.0, (up, is, below.1))
    lower (spot.After sibling) is below = (suc below.0, (up, is, below.1))

-- what follows of a value from two facts on it
pub ok_both : {X E : Type 0} {P Q R : X → Type 0} (r : Result X E) → ((x : X) → P x → Q x → R x)
    → IfOk r P → IfOk r Q → IfOk r R
ok_both r f p q = grind arith

module _ {T : Type 0} {S R : State T} {fs hs : List (Family T)} (sound : IsSound S) (k : IsTreeKept S fs)
    (node : Node T) (live : IsLiveIn S node) (list : List (Node T)) (cut : IsCut fs node list hs)
    (lost : HasLostNodes S list R) where
  -- what is listed is below the node, and what is below it is listed
  under : (s : ℕ) → 0 < count_at s list → (e : ℕ) × IsUnder fs (slot_in node) e s
  under = listed_below fs k.forest node list (length list) (part_whole fs k.forest node list cut.level)

  listed : (e s : ℕ) → IsUnder fs (slot_in node) e s → 0 < count_at s list
  listed = all_listed fs k.forest node list cut.level

  before : (s up : ℕ) → above cut.left s ≡ Some up → (s ≢ slot_in node) × (above fs s ≡ Some up)
  before s up is = grind arith

  upward : (s up : ℕ) → above cut.left s ≡ Some up → 0 < count_at s list → 0 < count_at up list
  upward s up is lt = grind (arith, under s lt, before s up is, under_up fs (slot_in node), listed)

  -- a live node is listed as often as its slot
  same_times : (n : Node T) → IsLiveIn S n → times n list ≡ count_at (slot_in n) list
  same_times n lives = times_live sound k n lives list (list_live sound k node live list cut.level)

  pub kept_cut : IsTreeKept R hs
  kept_cut =
      let left = kept_detached k sound cut.left node live cut.detached in
      kept_cleared left R hs list cut.cleared
      (λ s up is lt. let u = under up lt in listed (suc u.0) s (up, (before s up is).1, u.1)) upward
      (λ n none lives. ap is_some (lost.others n (same_times n lives ∙ none)) ∙ lives) lost.simple
      (cut.long ∙ (left.whole ∙ sym lost.same))

  not_node : (s : ℕ) → count_at s list ≡ 0 → s ≢ slot_in node
  not_node s none = grind (arith, listed 0 s)

  -- the parent, which isn't listed, loses the one child
  parent_free : (up : ℕ) → above fs (slot_in node) ≡ Some up → count_at up list ≡ 0
  parent_free up is =
      let r = k.forest.rooted (slot_in node) in
      grind (arith, no_cycle fs r.0 (slot_in node) up, under up, cases_lt 0 (count_at up list))

  module _ (sites : List Location) where
    abbrev whole : TreeState T
    whole = record { state = S; families = fs; sites = sites }

    abbrev cut_tree : TreeState T
    cut_tree = record { state = R; families = hs; sites = sites }

    pub cut_parent : (up : Node T) → parent_of whole node ≡ Some up → (value_of cut_tree up ≡ value_of whole up)
        × (family_of cut_tree up ≡ record { parent = parent_of whole up; children = without node (children_of whole up) })
    cut_parent up is = grind (arith, parent_free (slot_in up), same_times up, not_node (slot_in up))

    -- each other node is as it was
    pub cut_others : (n : Node T) → times n list ≡ 0
        → ((up : Node T) → parent_of whole node ≡ Some up → IsOther up n) → NodeIsUnchanged whole n cut_tree
    cut_others n out other = left_with whole cut_tree n (lost.others n out) (λ lives.
        let none = sym (same_times n lives) ∙ out in
        cut.cleared.others (slot_in n) none ∙ λ i. record {
          parent = cut.detached.parents (slot_in n) (not_node (slot_in n) none) i;
          children = cut.detached.others (slot_in n) (λ is. let p = above_parent fs (slot_in node) (slot_in n) is in
              other p.0 (live_parent sound k sites node live ∙ p.1)
              (one_live S p.0 n sound k.simple (k.parents (slot_in node) p.0 p.1) lives p.2)) i;
        })

-- ==== the locations of nodes

module _ {T : Type 0} where
  -- what is said of the locations stays so when more are added
  pub still_told : (number : ℕ) (s t : SiteState) (old : List Location) (n : Node T) (l : Location)
      → s.told ≤ t.told → t.all ≡ s.all → told_in s ≡ old → told_at number old n ≡ Some l
      → told_at number (told_in t) n ≡ Some l
  still_told number s t old n l le same was is = both (nat_eq n.store number) refl
    where
      both : (b : Bool) → nat_eq n.store number ≡ b → told_at number (told_in t) n ≡ Some l
      both true own = rw own (told_more s t n.site l le same
          (rw was (sym (ap (λ b. cond b (slice_get old n.site) None) own) ∙ is)))
      both false other = absurd (none-some l (sym (ap (λ b. cond b (slice_get old n.site) None) other) ∙ is))

  pub tells_here : (number : ℕ) (s : SiteState) (n : Node T) (here : Location) → n.store ≡ number → n.site < s.told
      → IsAt s.all n.site here → TellsLocation (told_at number (told_in s) n) here
  tells_here number s n here own lt at =
      (at.kept, rw (own, nat_eq_equiv.refl number) (told_here s n.site at.kept lt at.there), at.alike)

  -- a live node is of the tree's store
  pub live_number : {S : State T} → IsSound S → (n : Node T) → IsLiveIn S n → number_in n ≡ S.number
  live_number {S} sound n live = seen_store S (pointer_in n) sound live

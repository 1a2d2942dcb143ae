-- Trees over a store, as their models and as rows.
pub mod Links
unfoldable pub use Links.*

-- ==== what a tree says of its nodes

module _ {T : Type 0} where
  -- a live node has the family of its slot, and one that is gone is alone
  pub live_family : (t : TreeState T) (n : Node T) → is_live t n ≡ true
      → family_of t n ≡ family_at t.families (slot_in n)
  live_family t n live = ap (λ b. cond b (family_at t.families (slot_in n)) alone) live

  pub gone_family : (t : TreeState T) (n : Node T) → is_live t n ≡ false → family_of t n ≡ alone
  gone_family t n gone = ap (λ b. cond b (family_at t.families (slot_in n)) alone) gone

  -- a part of a node's family is unchanged, if it is so for a live node
  pub part_with : {X : Type 0} (part : Family T → X) (t u : TreeState T) (n : Node T)
      → value_of u n ≡ value_of t n
      → (is_live t n ≡ true
      → part (family_at u.families (slot_in n)) ≡ part (family_at t.families (slot_in n)))
      → part (family_of u n) ≡ part (family_of t n)
  part_with part t u n value same = grind arith

  -- a node is unchanged that has the same value, and the same family if it is live
  pub left_with : (t u : TreeState T) (n : Node T) → value_of u n ≡ value_of t n
      → (is_live t n ≡ true → family_at u.families (slot_in n) ≡ family_at t.families (slot_in n))
      → NodeIsUnchanged t n u
  left_with t u n value family = grind arith

-- the result of a test of a node of a tree's model
pub told_live : {T : Type 0} {t u : TreeState T} (n : Node T) {b : Bool} → t ≡ u → b ≡ is_live u n
    → b ≡ true → is_live t n ≡ true
told_live n same is live = cc

-- what is not there is missing
pub missing : {X : Type 0} (x : Option X) → is_some x ≡ false → x ≡ None
missing o none = grind (arith, true≢false)

-- what holds of each item of two lists holds of each in a row, and so of the lists of items
pub both_each : {X : Type 0} (P : X → Type 0) (xs ys : List X) → Each P xs → Each P ys
    → Each P (xs ++ ys)
both_each P [] ys each more i x at = more i x at
both_each P (z ∷ xs) ys each more zero x at = each 0 x at
both_each P (z ∷ xs) ys each more (suc i) x at = both_each P xs ys (λ j. each (suc j)) more i x at

pub flat_each : {X Y : Type 0} (P : Y → Type 0) (f : X → List Y) → ((x : X) → Each P (f x))
    → (xs : List X) → Each P (flat_map f xs)
flat_each P f each [] i y at = grind arith
flat_each P f each (x ∷ xs) i y at =
    both_each P (f x) (flat_map f xs) (each x) (flat_each P f each xs) i y at

module _ {T : Type 0} where
  -- what is below a live node is live
  pub below_live : (t : TreeState T) (top n : Node T) (e : ℕ) → is_live t top ≡ true
      → IsStepsBelow t top e n → is_live t n ≡ true
  below_live t top n e live same = grind (arith, same_shown)

  abbrev pub AreLive : State T → List (Node T) → Type 0
  AreLive S list = Each (IsLiveIn S) list

  module _ {S : State T} {fs : List (Family T)} (sound : IsSound S) (k : IsTreeKept S fs) where
    pub times_live : (n : Node T) → IsLiveIn S n → (list : List (Node T)) → AreLive S list
        → times n list ≡ count_at (slot_in n) list
    times_live n live list lives = search (arith, times_at, same_id, one_live)

    pub times_gone : (n : Node T) → is_some (value_in S (pointer_in n)) ≡ false → (list : List (Node T))
        → AreLive S list → times n list ≡ 0
    times_gone n gone list lives =
        times_none n list (λ i x at. grind (arith, lives i x at, same_shown S x n, is_id x n))

    pub list_live : (top : Node T) → IsLiveIn S top → (list : List (Node T)) → IsInLevels fs top list → AreLive S list
    list_live top live list level = rw level (both_each (IsLiveIn S) (top ∷ []) _ (λ i c at. grind arith)
        (flat_each (IsLiveIn S) (λ n. children_at fs (slot_in n)) (λ n. k.children (slot_in n)) list))

  module _ {S : State T} {fs : List (Family T)} (sound : IsSound S) (k : IsTreeKept S fs) (sites : List Location) where
    abbrev tree : TreeState T
    tree = record { state = S; families = fs; sites = sites }

    pub live_children : (n : Node T) → IsLiveIn S n → children_of tree n ≡ children_at fs (slot_in n)
    live_children n live = ap (λ f. f.children) (live_family tree n live)

    pub live_parent : (n : Node T) → IsLiveIn S n → parent_of tree n ≡ parent_at fs (slot_in n)
    live_parent n live = ap (λ f. f.parent) (live_family tree n live)

    -- a node with a parent is live, and so is the parent
    pub has_parent : (n up : Node T) → parent_of tree n ≡ Some up
        → IsLiveIn S n × (parent_at fs (slot_in n) ≡ Some up)
    has_parent n up is = grind arith

    -- ---- the tree

    pub rooted_in : (d : ℕ) (n : Node T) → IsLiveIn S n → IsRooted fs d (slot_in n) → IsRootedIn tree d n
    rooted_in zero n live r = grind arith
    rooted_in (suc d) n live r = grind (arith, rooted_in d, above_parent, live_parent)

    pub kept_tree : IsTree tree
    kept_tree = record {
      once = λ n up is.
          let at = has_parent n up is in
          let same = times_live sound k n at.0 (children_at fs (slot_in up)) (k.children (slot_in up)) in
          grind (arith, live_children up, k.parents (slot_in n) up, k.forest.once (slot_in n));
      only = λ n other apart. ⊎_elim
          (λ live. ap (times n) (live_children other live) ∙ ⊎_elim
          (λ lives. times_live sound k n lives (children_at fs (slot_in other)) (k.children (slot_in other))
          ∙ k.forest.only (slot_in n) (slot_in other) (λ is.
          let p = above_parent fs (slot_in n) (slot_in other) is in
          apart p.0 (live_parent n lives ∙ p.1)
          (one_live S p.0 other sound k.simple (k.parents (slot_in n) p.0 p.1) live p.2)))
          (λ gone. times_gone sound k n gone (children_at fs (slot_in other)) (k.children (slot_in other)))
          (cases_Bool (is_live tree n)))
          (λ gone. ap (λ f. times n f.children) (gone_family tree other gone))
          (cases_Bool (is_live tree other));
      rooted = λ n. ⊎_elim
          (λ live. let r = k.forest.rooted (slot_in n) in (r.0, rooted_in r.0 n live r.1))
          (λ gone. (0, ap (λ f. f.parent) (gone_family tree n gone))) (cases_Bool (is_live tree n));
    }

    -- ---- what is below a node

    module _ (top : Node T) (live : IsLiveIn S top) where
      pub under_below : (e : ℕ) (n : Node T) → IsLiveIn S n → IsUnder fs (slot_in top) e (slot_in n)
          → IsStepsBelow tree top e n
      under_below zero n lives is = grind (arith, one_live)
      under_below (suc e) n lives under = grind (arith, under_below e, above_parent, live_parent)

      pub below_under : (e : ℕ) (n : Node T) → IsStepsBelow tree top e n
          → IsLiveIn S n × IsUnder fs (slot_in top) e (slot_in n)
      below_under zero n same = grind (arith, same_shown S n top same)
      below_under (suc e) n below = grind (arith, has_parent n below.0 below.1, below_under e below.0 below.2)

      module _ (list : List (Node T)) (level : IsInLevels fs top list) where
        flat_same : (xs : List (Node T)) → AreLive S xs
            → flat_map (λ n. children_at fs (slot_in n)) xs ≡ flat_map (children_of tree) xs
        flat_same [] lives = grind arith
        flat_same (x ∷ xs) lives = grind (arith, flat_same xs (λ i. lives (suc i)), live_children x (lives 0 x refl))

        pub subtree : IsSubtree tree top list
        subtree =
            let whole = part_whole fs k.forest top list level in record {
              levels = level ∙ ap (λ rest. top ∷ rest) (flat_same list (list_live sound k top live list level));
              below = λ n. (
                λ some. ⊎_elim
                    (λ lives. let under = listed_below fs k.forest top list _ whole (slot_in n)
                    (grind (arith, times_live sound k n lives list (list_live sound k top live list level))) in
                    (under.0, under_below under.0 n lives under.1))
                    (λ gone. absurd (grind (arith, times_gone sound k n gone list (list_live sound k top live list level))))
                    (cases_Bool (is_live tree n)),
                λ below. let at = below_under below.0 n below.1 in
                    rw (times_live sound k n at.0 list (list_live sound k top live list level))
                    (all_listed fs k.forest top list level below.0 (slot_in n) at.1),
              );
              once = λ n. ⊎_elim (λ lives. rw (times_live sound k n lives list (list_live sound k top live list level))
                  (listed_once fs k.forest top list _ whole (slot_in n)))
                  (λ gone. rw (times_gone sound k n gone list (list_live sound k top live list level)) (omega arith))
                  (cases_Bool (is_live tree n));
            }

-- ==== which node is noted at each slot, after each write to the links

module _ {T : Type 0} where
  -- ---- a slot that is opened

  -- what an opening of a node's slot leaves
  pub record HasOpened (links : List (Link T)) (node : Node T) (new : List (Link T)) : Type 0 where
    pub linked : AreChildrenLinked new
    pub opened : IsOpened (families links) (slot_in node) (families new)
    pub longer : length links ≤ length new
    pub others : (s : ℕ) → s ≢ slot_in node → noted new s ≡ noted links s
    pub noted : noted new (slot_in node) ≡ Some node

  -- with another link at the end
  noted_last : (links : List (Link T)) (l : Link T) (s : ℕ) → s ≡ length links
      → noted (links ++ l ∷ []) s ≡ Some l.node
  noted_last [] l s is = grind arith
  noted_last (x ∷ links) l s is = grind (arith, noted_last links)

  noted_before : (links : List (Link T)) (l : Link T) (s : ℕ) → s ≢ length links
      → noted (links ++ l ∷ []) s ≡ noted links s
  noted_before [] l s ne = grind arith
  noted_before (x ∷ links) l s ne = grind (arith, noted_before links)

  pub opened_last : (links : List (Link T)) → AreChildrenLinked links → (node : Node T) (l : Link T)
      → l.node ≡ node → l.parent ≡ None → l.first ≡ None → l.last ≡ None
      → slot_in node ≡ length links → HasOpened links node (links ++ l ∷ [])
  opened_last links linked node l of root first last at = record {
    linked = opened_linked links linked l root first last;
    opened = opened_is links linked l root first last (slot_in node) at;
    longer = grind (arith, length-append links (l ∷ []));
    others = λ s ne. noted_before links l s (λ end. ne (end ∙ sym at));
    noted = noted_last links l (slot_in node) at ∙ ap Some of;
  }

  -- ---- a node that is noted at a slot that no list has

  abbrev renoted : List (Link T) → Node T → List (Link T)
  renoted links node = changed links (slot_in node) (λ l. record l { node = node })

  pub opened_old : (links : List (Link T)) → AreChildrenLinked links → IsForest (families links)
      → (node : Node T) → above (families links) (slot_in node) ≡ None → slot_in node < length links
      → HasOpened links node (renoted links node)
  opened_old links linked f node root lt = record {
    linked = linked_like links (renoted links node) (omega (arith, long)) held;
    opened = record {
      same = λ s. family_like links (renoted links node) s (omega (arith, long)) (held s)
          (changed_kept upper links (slot_in node) _ (λ l. refl) s);
      old = λ _. same_length (renoted links node) links long;
      next = λ is. grind (arith, length-map);
    };
    longer = omega (arith, long);
    noted = let l = link_there links (slot_in node) lt in
        ap node_in (changed_here links (slot_in node) _ l.0 l.1);
    others = λ s ne. ap node_in (changed_apart links (slot_in node) _ s ne);
  }
    where
      held : (s : ℕ) → IsHeld (renoted links node) s (children_at (families links) s)
      held = changed_held links linked (slot_in node) _ (λ l. refl) (λ l. refl)
          (λ s. inl (f.only (slot_in node) s (λ is. none-some s (sym root ∙ is))))

      long : length (renoted links node) ≡ length links
      long = changed_length links (slot_in node) _

  -- ---- the live nodes

  pub none_noted : (S : State T) → ((n : Node T) → IsLiveIn S n → ⊥) → AreNodesNoted S []
  none_noted S none = grind arith

  module _ {S R : State T} {old new : List (Link T)} (k : AreNodesNoted S old) where
    -- if the same nodes are recorded, and none is live that wasn't
    pub noted_left : ((s : ℕ) → noted new s ≡ noted old s) → ((n : Node T) → IsLiveIn R n → IsLiveIn S n)
        → AreNodesNoted R new
    noted_left same lives = grind arith

    -- if one is recorded at its slot, and each live one is this, or was live, and has another slot
    pub noted_put : (child : Node T) → noted new (slot_in child) ≡ Some child
        → ((s : ℕ) → s ≢ slot_in child → noted new s ≡ noted old s)
        → ((n : Node T) → IsLiveIn R n → slot_in n ≡ slot_in child → IsSame child n)
        → ((n : Node T) → IsLiveIn R n → slot_in n ≢ slot_in child → IsLiveIn S n) → AreNodesNoted R new
    noted_put child here others one before = grind arith

    -- after a making
    pub noted_made : IsSound S → IsSound R → IsSimple R → (v : T) (l : Location) (child : Node T)
        → HasMade S v l child R → IsLiveIn R child → noted new (slot_in child) ≡ Some child
        → ((s : ℕ) → s ≢ slot_in child → noted new s ≡ noted old s) → AreNodesNoted R new
    noted_made s sound simple v l child m lives here others = noted_put child here others
        (λ n now same. one_live R child n sound simple lives now (sym same))
        (λ n now ne. sym (ap is_some (same_value S R (Make None v l) (Made m.0) s m.1 (pointer_in n) tt
        (λ is. ne (sym (ap (λ q. q.slot) is) ∙ sym (ap (λ i. i.slot) m.2))))) ∙ now)

    -- and after nodes are removed
    pub noted_lost : {list : List (Node T)} → HasLostNodes S list R → ((s : ℕ) → noted new s ≡ noted old s)
        → AreNodesNoted R new
    noted_lost {list} lost same = grind arith

-- ==== rows of an outline: what follows each, and that they are those of the tree

pub one_deeper : (d : ℕ) → d + 1 ≡ suc d
one_deeper d = omega arith

module _ {T : Type 0} where
  -- what is counted parts a list
  pub parted : (s : ℕ) (cs : List (Node T)) → 0 < count_at s cs
      → (xs : List (Node T)) × (c : Node T) × (ys : List (Node T)) × (cs ≡ xs ++ c ∷ ys) × (slot_in c ≡ s)
  parted s [] lt = absurd (omega (arith, lt))
  parted s (c ∷ cs) lt = ⊎_elim (λ is. ([], c, cs, refl, is))
      (λ ne. let rest = parted s cs (subst (λ n. 0 < n) (count_apart s c cs ne) lt) in
      (c ∷ rest.0, rest.1, rest.2, ap (λ xs. c ∷ xs) rest.3, rest.4))
      (cases_eq (slot_in c) s)

  module _ (links : List (Link T)) (linked : AreChildrenLinked links) (f : IsForest (families links)) where
    abbrev fs : List (Family T)
    fs = families links

    abbrev after_at : ℕ → Option ℕ
    after_at s = after_tied (tie_of (slice_get links s))

    -- what follows a child among its siblings
    module _ (s up : ℕ) (is : above fs s ≡ Some up) where
      one_above : count_at s (children_at fs up) ≡ 1
      one_above = f.once s up is

      abbrev part : (xs : List (Node T)) × (c : Node T) × (ys : List (Node T))
          × (children_at fs up ≡ xs ++ c ∷ ys) × (slot_in c ≡ s)
      part = parted s (children_at fs up) (omega (arith, one_above))

      after_is : after_at s ≡ head_or part.2 None
      after_is = grind (arith, between links up linked part.0 part.1 part.2 part.3, part)

      lies : IsChain links (Some (slot_in part.1)) part.2 None
      lies = (chain_split links None None part.0 (part.1 ∷ part.2)
          (subst (λ cs. IsHeld links up cs) part.3 (linked up)).chain).1.1

      few_after : length part.2 ≤ length links
      few_after = grind (arith, children_short links up, length-append part.0 (part.1 ∷ part.2))

      left_is : chain links (length links) (after_at s) ≡ part.2
      left_is = grind (arith, after_is, chain_is, lies, few_after)

      over : (y : Node T) → slice_get part.2 0 ≡ Some y → above fs (slot_in y) ≡ Some up
      over y at = let behind_it = get_behind part.0 (part.1 ∷ part.2) 1 y at in
          parent_is fs f up behind_it.0 y (ap (λ cs. slice_get cs behind_it.0) part.3 ∙ behind_it.1)

    -- a node that is first of what follows has a link, with what follows it
    head_there : (before : Option ℕ) (y : Node T) (ys : List (Node T)) → IsChain links before (y ∷ ys) None
        → (at : ℕ) (l : Link T) → slice_get links at ≡ Some l → Some at ≡ Some (slot_in y)
        → (l.node ≡ y) × (at ≡ slot_in y)
    head_there before y ys is at l there same = grind arith

    -- a node that is first of some children of a slot has a slot of a link, and its row is their first
    head_within : (up at : ℕ) (zs : List (Node T))
        → ((y : Node T) → slice_get zs 0 ≡ Some y → above fs (slot_in y) ≡ Some up)
        → head_or zs None ≡ Some at → at < length links
    head_within up at [] over is = grind (arith, none-some at is)
    head_within up at (y ∷ ys) over is = grind (arith, slot_within fs (slot_in y) up (over y refl), length-map)

    head_row : (d up at : ℕ) (l : Link T) (before : Option ℕ) (zs : List (Node T)) → length zs ≤ length links
        → IsChain links before zs None
        → ((y : Node T) → slice_get zs 0 ≡ Some y → above fs (slot_in y) ≡ Some up)
        → head_or zs None ≡ Some at → slice_get links at ≡ Some l
        → (waiting links (Some (suc d, l.node)) ≡ rows_at (suc d) zs ++ behind links d (Some up))
        × (above fs (slot_in l.node) ≡ Some up) × (slot_in l.node < length links)
    head_row d up at l before zs le lies over is there = grind (arith, head_there, chain_is, behind, slice_get_within)

    -- the next sibling's row waits next, and has the same parent
    pub next_sibling : (d s up at : ℕ) (l : Link T) → above fs s ≡ Some up → after_at s ≡ Some at
        → slice_get links at ≡ Some l
        → (waiting links (Some (suc d, l.node)) ≡ behind links (suc d) (Some s))
        × (above fs (slot_in l.node) ≡ Some up) × (slot_in l.node < length links)
    next_sibling d s up at l is next there =
        let row = head_row d up at l _ (part s up is).2 (few_after s up is) (lies s up is) (over s up is)
        (sym (after_is s up is) ∙ next) there in
        let left = left_is s up is in grind (arith, behind)

    -- if no sibling follows, what follows the parent does
    pub no_sibling : (d s : ℕ) → after_at s ≡ None
        → behind links (suc d) (Some s) ≡ behind links d (above fs s)
    no_sibling d s none = grind arith

    head : (s : ℕ) (m : Link T) → slice_get links s ≡ Some m → m.first ≡ head_or (children_at fs s) None
    head s m from = sym (ap first_of from) ∙ (linked s).first

    -- the first child's row waits next
    pub first_row : (d s at : ℕ) (l m : Link T) → slice_get links s ≡ Some m → m.first ≡ Some at
        → slice_get links at ≡ Some l
        → (waiting links (Some (d + 1, l.node))
        ≡ rows_at (d + 1) (children_at fs s) ++ behind links d (Some s))
        × (above fs (slot_in l.node) ≡ Some s) × (slot_in l.node < length links)
    first_row d s at l m from next there =
        let row = head_row d s at l None (children_at fs s) (children_short links s) (linked s).chain
        (parent_is fs f s 0) (sym (head s m from) ∙ next) there in (rw one_deeper row.0, row.1, row.2)

    -- a slot without children has no rows of any
    pub no_row : (d s : ℕ) (m : Link T) → slice_get links s ≡ Some m → m.first ≡ None
        → rows_at (d + 1) (children_at fs s) ++ behind links d (Some s) ≡ behind links d (Some s)
    no_row d s m from none = search arith

    -- a slot of a link is within, as the slots that a link names
    pub first_within : (s at : ℕ) (m : Link T) → slice_get links s ≡ Some m → m.first ≡ Some at
        → at < length links
    first_within s at m from next =
        head_within s at (children_at fs s) (parent_is fs f s 0) (sym (head s m from) ∙ next)

    pub after_within : (s up at : ℕ) → above fs s ≡ Some up → after_at s ≡ Some at → at < length links
    after_within s up at is next =
        head_within up at (part s up is).2 (over s up is) (sym (after_is s up is) ∙ next)

-- a slot that is some steps below another has a parent, unless the steps are 0
pub under_has : {T : Type 0} (fs : List (Family T)) (top d s : ℕ) → 0 < d → IsUnder fs top d s
    → (up : ℕ) × (above fs s ≡ Some up)
under_has fs top d s lt under = grind arith

module _ {T : Type 0} (links : List (Link T)) where
  -- no row is deeper than there are links
  pub placed_short : IsForest (families links) → (d s : ℕ) → IsRowPlaced links d s → d < length links
  placed_short f d s placed =
      let r = f.rooted placed.0 in
      let far = rooted_under (families links) placed.0 r.0 d s placed.1 r.1 in
      grind (arith, length-map, depth_within (families links) f far.0 s far.2)

  module _ (linked : AreChildrenLinked links) (f : IsForest (families links)) where
    -- both cases of a row behind, as the links are read
    pub sibling_row : (d s : ℕ) → IsRowPlaced links d s → 0 < d → (l : Link T) → slice_get links s ≡ Some l
        → (at : ℕ) → l.after ≡ Some at → (m : Link T) → slice_get links at ≡ Some m
        → (waiting links (Some (d, m.node)) ≡ behind links d (Some s)) × IsRowPlaced links d (slot_in m.node)
    sibling_row zero s placed lt l here at next m there = absurd (omega arith)
    sibling_row (suc d) s placed lt l here at next m there =
        let up = placed.1.0 in
        let is = placed.1.1 in
        let after = ap (λ o. after_tied (tie_of o)) here ∙ next in
        let row = next_sibling links linked f d s up at m is after there in
        (row.0, (placed.0, (up, row.1, placed.1.2), row.2))

    -- the sibling of a link has one
    pub sibling_within : (d s : ℕ) → IsRowPlaced links d s → 0 < d → (l : Link T) → slice_get links s ≡ Some l
        → (at : ℕ) → l.after ≡ Some at → at < length links
    sibling_within zero s placed lt l here at next = absurd (omega arith)
    sibling_within (suc d) s placed lt l here at next =
        after_within links linked f s placed.1.0 at placed.1.1 (ap (λ o. after_tied (tie_of o)) here ∙ next)

    pub behind_up : (d s : ℕ) → IsRowPlaced links d s → 0 < d → (l : Link T) → slice_get links s ≡ Some l
        → l.after ≡ None → (up : ℕ) → above (families links) s ≡ Some up
        → IsRowPlaced links (d - 1) up × (behind links (d - 1) (Some up) ≡ behind links d (Some s))
    behind_up zero s placed lt l read none up is = grind arith
    behind_up (suc d) s placed lt l read none up is =
        grind (arith, length-map, above_within, no_sibling)

  -- what is read of rows, one_above at a time
  pub rows_more : (left d : ℕ) (n : Node T) → left ≢ 0 → (slot : ℕ) → slot ≡ slot_in n
      → (next : Option (ℕ × Node T))
      → waiting links next ≡ rows_at (d + 1) (children_at (families links) slot) ++ behind links d (Some slot)
      → rows (families links) left (waiting links (Some (d, n)))
      ≡ (d, n) ∷ rows (families links) (left - 1) (waiting links next)
  unfolding rows
  rows_more left d n some slot is next then = grind arith

module _ {T : Type 0} (fs : List (Family T)) where
  pub rows_none : (left : ℕ) (list : List (ℕ × Node T)) → left ≡ 0 → rows fs left list ≡ []
  unfolding rows
  rows_none left list is = grind arith

  pub rows_end : (left : ℕ) → rows fs left [] ≡ []
  unfolding rows
  rows_end left = grind arith

-- rows of live nodes are those of told_tree
module _ {T : Type 0} {S : State T} {fs : List (Family T)} (sound : IsSound S) (k : IsTreeKept S fs)
    (sites : List Location) where
  abbrev told_tree : TreeState T
  told_tree = record { state = S; families = fs; sites = sites }

  get_row : (d : ℕ) (cs : List (Node T)) (i : ℕ) (r : ℕ × Node T) → slice_get (rows_at d cs) i ≡ Some r
      → slice_get cs i ≡ Some r.1
  get_row d [] i r at = grind arith
  get_row d (c ∷ cs) i r at = grind (arith, get_row d cs)

  pub rows_outline : (limit : ℕ) (list : List (ℕ × Node T))
      → ((i : ℕ) (r : ℕ × Node T) → slice_get list i ≡ Some r → IsLiveIn S r.1)
      → rows fs limit list ≡ outline_of told_tree limit list
  unfolding rows outline_of
  rows_outline zero list lives = refl
  rows_outline (suc limit) [] lives = refl
  rows_outline (suc limit) (r ∷ list) lives =
      ap (λ rest. r ∷ rest) (rows_outline limit (rows_at (r.0 + 1) (children_at fs (slot_in r.1)) ++ list)
      (both_each (λ x. IsLiveIn S x.1) (rows_at (r.0 + 1) (children_at fs (slot_in r.1))) list
      (λ i x at. k.children (slot_in r.1) i x.1
      (get_row (r.0 + 1) (children_at fs (slot_in r.1)) i x at))
      (λ i. lives (suc i)))
      ∙ ap (λ cs. outline_of told_tree limit (rows_at (r.0 + 1) cs ++ list))
      (sym (live_children sound k sites r.1 (lives 0 r refl))))

  pub outline_from : (limit : ℕ) (node : Node T) → IsLiveIn S node
      → rows fs limit ((0, node) ∷ []) ≡ outline_of told_tree limit ((0, node) ∷ [])
  outline_from limit node live = grind (arith, rows_outline)

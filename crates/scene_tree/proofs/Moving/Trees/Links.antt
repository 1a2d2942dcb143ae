-- Links: chains of siblings, and what a change of links does to a forest.
pub mod Forests
use Rattle.scene_tree.specs.declared.spot.Spot.TheVariants as spot
unfoldable pub use Forests.*

-- ==== chains of children in the links, after each write, and as a child is added or removed

module _ {T : Type 0} where
  -- ---- one link is changed

  pub changed_apart : (links : List (Link T)) (slot : ℕ) (f : Link T → Link T) (s : ℕ) → s ≢ slot
      → slice_get (changed links slot f) s ≡ slice_get links s
  changed_apart [] slot f s ne = grind arith
  changed_apart (l ∷ links) slot f s ne = grind (arith, changed_apart links)

  pub changed_here : (links : List (Link T)) (slot : ℕ) (f : Link T → Link T) (l : Link T)
      → slice_get links slot ≡ Some l → slice_get (changed links slot f) slot ≡ Some (f l)
  changed_here [] slot f l is = grind arith
  changed_here (x ∷ links) slot f l is = grind (arith, changed_here links)

  -- what the change leaves of a link stays at each slot
  pub changed_kept : {X : Type 0} (part : Option (Link T) → X) (links : List (Link T)) (slot : ℕ)
      (f : Link T → Link T) → ((l : Link T) → part (Some (f l)) ≡ part (Some l)) → (s : ℕ)
      → part (slice_get (changed links slot f) s) ≡ part (slice_get links s)
  changed_kept part [] slot f same s = grind arith
  changed_kept part (l ∷ links) slot f same s = grind (arith, changed_kept part links)

  -- another link that a part doesn't distinguish from none
  pub pushed_kept : {X : Type 0} (part : Option (Link T) → X) (l : Link T) → part (Some l) ≡ part None
      → (links : List (Link T)) (s : ℕ) → part (slice_get (links ++ l ∷ []) s) ≡ part (slice_get links s)
  pushed_kept part l same [] s = grind arith
  pushed_kept part l same (x ∷ links) s = grind (arith, pushed_kept part l same links)

  pub changed_length : (links : List (Link T)) (slot : ℕ) (f : Link T → Link T)
      → length (changed links slot f) ≡ length links
  changed_length [] slot f = grind arith
  changed_length (l ∷ links) slot f = grind (arith, changed_length links)

  -- a link that is changed twice
  pub changed_twice : (links : List (Link T)) (slot : ℕ) (f g : Link T → Link T)
      → changed (changed links slot f) slot g ≡ changed links slot (λ l. g (f l))
  changed_twice [] slot f g = refl
  changed_twice (l ∷ links) zero f g = refl
  changed_twice (l ∷ links) (suc slot) f g = ap (λ rest. l ∷ rest) (changed_twice links slot f g)

  -- a slot within has a link
  pub link_there : (links : List (Link T)) (s : ℕ) → s < length links
      → (l : Link T) × (slice_get links s ≡ Some l)
  link_there [] s lt = absurd (omega arith)
  link_there (l ∷ links) zero lt = (l, refl)
  link_there (l ∷ links) (suc s) lt = link_there links s (omega (arith, lt))

  -- and so has one with a tie
  pub tied_within : (links : List (Link T)) (s : ℕ) (tie : Node T × Option ℕ × Option ℕ)
      → tie_of (slice_get links s) ≡ Some tie → (l : Link T) × (slice_get links s ≡ Some l)
  tied_within links s tie is = grind arith

  -- a slot has its link, or the changed one
  changed_get : (links : List (Link T)) (slot : ℕ) (f : Link T → Link T) (s : ℕ)
      → slice_get (changed links slot f) s
      ≡ cond (nat_eq s slot) (option_map f (slice_get links s)) (slice_get links s)
  changed_get [] slot f s = grind arith
  changed_get (l ∷ links) slot f s = grind (arith, changed_get links)

  -- ---- a child, or the first, is put after another, and one, or the last, before another

  pub after_length : (links : List (Link T)) (up : ℕ) (at next : Option ℕ)
      → length (after_put links up at next) ≡ length links
  after_length links up at next = grind (arith, changed_length)

  module _ (links : List (Link T)) (up : ℕ) (at by next previous : Option ℕ) where
    abbrev half : List (Link T)
    half = after_put links up at next

    abbrev pub beside : List (Link T)
    beside = before_put half up by previous

    pub beside_length : length beside ≡ length links
    beside_length = grind (arith, changed_length)

    -- what is neither an end nor a neighbour stays
    pub beside_kept : {X : Type 0} (part : Option (Link T) → X)
        → ((l : Link T) (f e b a : Option ℕ)
        → part (Some (record l { first = f; last = e; before = b; after = a })) ≡ part (Some l))
        → (s : ℕ) → part (slice_get beside s) ≡ part (slice_get links s)
    beside_kept p free s = below by ∙ above at
      where
        above : (o : Option ℕ) → p (slice_get (after_put links up o next) s) ≡ p (slice_get links s)
        above None = changed_kept p links up _ (λ l. free l next l.last l.before l.after) s
        above (Some i) = changed_kept p links i _ (λ l. free l l.first l.last l.before next) s

        below : (o : Option ℕ)
            → p (slice_get (before_put half up o previous) s) ≡ p (slice_get half s)
        below None = changed_kept p half up _ (λ l. free l l.first previous l.before l.after) s
        below (Some i) = changed_kept p half i _ (λ l. free l l.first l.last previous l.after) s

    -- ties stay except for the neighbours', and ends except for the slot's
    beside_ties : (s : ℕ) → at ≢ Some s → by ≢ Some s
        → tie_of (slice_get beside s) ≡ tie_of (slice_get links s)
    beside_ties s ne other = grind (arith, changed_get)

    beside_first : (s : ℕ) → s ≢ up → first_of (slice_get beside s) ≡ first_of (slice_get links s)
    beside_first s ne = grind (arith, changed_get)

    beside_last : (s : ℕ) → s ≢ up → last_link_of (slice_get beside s) ≡ last_link_of (slice_get links s)
    beside_last s ne = grind (arith, changed_get)

    -- an end is set if there is no neighbour
    abbrev unless : Option ℕ → Option ℕ → Option ℕ → Option ℕ
    unless None new old = new
    unless (Some i) new old = old

    module _ (l : Link T) (there : slice_get links up ≡ Some l) where
      first_put : first_of (slice_get beside up) ≡ unless at next (first_of (slice_get links up))
      first_put = grind (arith, changed_get)

      last_put : last_link_of (slice_get beside up) ≡ unless by previous (last_link_of (slice_get links up))
      last_put = grind (arith, changed_get)

    module _ (s : ℕ) (n : Node T) (b a : Option ℕ)
        (tie : tie_of (slice_get links s) ≡ Some (n, b, a)) where
      after_tie : at ≡ Some s → by ≢ Some s → tie_of (slice_get beside s) ≡ Some (n, b, next)
      after_tie is ne = grind (arith, changed_get)

      before_tie : at ≢ Some s → by ≡ Some s → tie_of (slice_get beside s) ≡ Some (n, previous, a)
      before_tie ne is = grind (arith, changed_get)

  -- ---- the slots of the first and of the last node

  pub head_both : (xs ys : List (Node T)) (other : Option ℕ)
      → head_or (xs ++ ys) other ≡ head_or xs (head_or ys other)
  head_both xs ys other = grind arith

  pub last_both : (other : Option ℕ) (xs ys : List (Node T))
      → last_or other (xs ++ ys) ≡ last_or (last_or other xs) ys
  last_both other [] ys = refl
  last_both other (x ∷ xs) ys = last_both (Some (slot_in x)) xs ys

  -- they are counted
  last_from : (s : ℕ) (other : Option ℕ) (xs : List (Node T)) → last_or other xs ≡ Some s
      → (other ≡ Some s) ⊎ (0 < count_at s xs)
  last_from s other [] is = inl is
  last_from s other (x ∷ xs) is =
      grind (arith, last_from s (Some (slot_in x)) xs is, count_here s x xs, count_more s x xs)

  pub last_counted : (s : ℕ) (xs : List (Node T)) → last_or None xs ≡ Some s → 0 < count_at s xs
  last_counted s xs is = grind (arith, last_from s None xs is)

  pub head_counted : (s : ℕ) (xs : List (Node T)) → head_or xs None ≡ Some s → 0 < count_at s xs
  head_counted s [] is = absurd (none-some s is)
  head_counted s (x ∷ xs) is = grind (arith, count_here s x xs)

  last_some : (s : ℕ) (xs : List (Node T)) → last_or (Some s) xs ≢ None
  last_some s [] is = none-some s (sym is)
  last_some s (x ∷ xs) is = last_some (slot_in x) xs is

  module _ (links : List (Link T)) where
    -- ---- chains

    pub chain_split : (before after : Option ℕ) (xs ys : List (Node T))
        → IsChain links before (xs ++ ys) after
        → IsChain links before xs (head_or ys after) × IsChain links (last_or before xs) ys after
    chain_split before after [] ys is = grind arith
    chain_split before after (x ∷ xs) ys is = grind (arith, chain_split (Some (slot_in x)) after xs ys is.1, head_both)

    pub chain_join : (before after : Option ℕ) (xs ys : List (Node T))
        → IsChain links before xs (head_or ys after) → IsChain links (last_or before xs) ys after
        → IsChain links before (xs ++ ys) after
    chain_join before after [] ys front back = back
    chain_join before after (x ∷ xs) ys front back =
        grind (arith, head_both xs ys after, chain_join (Some (slot_in x)) after xs ys front.1 back)

    -- a walk along a chain meets its nodes
    pub chain_none : (n : ℕ) → chain links n None ≡ []
    chain_none n = grind arith

    pub chain_is : (before : Option ℕ) (xs : List (Node T)) (n : ℕ) → IsChain links before xs None
        → length xs ≤ n → chain links n (head_or xs None) ≡ xs
    chain_is before [] n is le = grind (arith, chain_none)
    chain_is before (x ∷ xs) zero is le = grind arith
    chain_is before (x ∷ xs) (suc n) is le = grind (arith, chain_is (Some (slot_in x)) xs n is.1 (omega (arith, le)))

    pub chain_short : (n : ℕ) (at : Option ℕ) → length (chain links n at) ≤ n
    chain_short zero at = grind arith
    chain_short (suc n) at = grind (arith, chain_short n)

module _ {T : Type 0} where
  -- two links have the same ties at the slots of a list
  abbrev HasTies : List (Link T) → List (Link T) → List (Node T) → Type 0
  HasTies old new xs = (s : ℕ) → 0 < count_at s xs
      → tie_of (slice_get new s) ≡ tie_of (slice_get old s)

  pub chain_kept : (old new : List (Link T)) (before after : Option ℕ) (xs : List (Node T))
      → HasTies old new xs → IsChain old before xs after → IsChain new before xs after
  chain_kept old new before after [] same is = tt
  chain_kept old new before after (x ∷ xs) same is = (
    same (slot_in x) (let here = count_here (slot_in x) x xs refl in omega (arith, here)) ∙ is.0,
    chain_kept old new (Some (slot_in x)) after xs
        (λ s lt. same s (let more = count_more s x xs in omega (arith, lt, more))) is.1,
  )

  pub held_kept : (old new : List (Link T)) (slot : ℕ) (xs : List (Node T)) → HasTies old new xs
      → first_of (slice_get new slot) ≡ first_of (slice_get old slot)
      → last_link_of (slice_get new slot) ≡ last_link_of (slice_get old slot)
      → IsHeld old slot xs → IsHeld new slot xs
  held_kept old new slot xs same first last held = grind (arith, chain_kept old new None None xs same held.chain)

  -- ---- children of a slot that are linked anew: some between two parts in place of others

  abbrev pub relinked : List (Link T) → ℕ → List (Node T) → List (Node T) → List (Node T)
      → List (Link T)
  relinked links up xs ns ys =
      beside links up (last_or None xs) (head_or ys None) (head_or ns (head_or ys None))
      (last_or (last_or None xs) ns)

  module _ (links : List (Link T)) (up : ℕ) (l : Link T) (there : slice_get links up ≡ Some l)
      (xs ns ys : List (Node T))
      (once : (s : ℕ) → count_at s xs + (count_at s ns + count_at s ys) ≤ 1) where
    abbrev next : Option ℕ
    next = head_or ns (head_or ys None)

    abbrev previous : Option ℕ
    previous = last_or (last_or None xs) ns

    abbrev new : List (Link T)
    new = relinked links up xs ns ys

    ties : (s : ℕ) → last_or None xs ≢ Some s → head_or ys None ≢ Some s
        → tie_of (slice_get new s) ≡ tie_of (slice_get links s)
    ties = beside_ties links up _ _ _ _

    -- what is in one part is in no other
    last_behind : (s : ℕ) → 0 < count_at s ns + count_at s ys → last_or None xs ≢ Some s
    last_behind s lt is = grind (arith, last_counted s xs is, once s)

    ahead : (s : ℕ) → 0 < count_at s xs + count_at s ns → head_or ys None ≢ Some s
    ahead s lt is = grind (arith, head_counted s ys is, once s)

    front : (before after : Option ℕ) (zs : List (Node T)) → last_or None zs ≡ last_or None xs
        → ((s : ℕ) → count_at s zs ≤ count_at s xs) → IsChain links before zs after
        → IsChain new before zs next
    front before after [] is le lies = tt
    front before after (z ∷ []) is le lies = (
      after_tie links up _ _ _ _ (slot_in z) z before after lies.0 (sym is)
          (ahead (slot_in z) (grind (arith, count_here (slot_in z) z [], le (slot_in z)))),
      tt,
    )
    front before after (z ∷ y ∷ zs) is le lies =
        let here = count_here (slot_in z) z (y ∷ zs) refl in
        let more = le (slot_in z) in (
          ties (slot_in z)
              (λ e. grind (arith, once (slot_in z), last_counted (slot_in z) (y ∷ zs) (is ∙ e)))
              (ahead (slot_in z) (omega (arith, here, more))) ∙ lies.0,
          front (Some (slot_in z)) after (y ∷ zs) is
              (λ s. grind (arith, le s, count_more s z (y ∷ zs))) lies.1,
        )

    middle : (before after : Option ℕ) → IsChain links before ns after → IsChain new before ns after
    middle before after = chain_kept links new before after ns
        (λ s lt. ties s (last_behind s (omega (arith, lt))) (ahead s (omega (arith, lt))))

    back : (before : Option ℕ) (zs : List (Node T)) → head_or zs None ≡ head_or ys None
        → ((s : ℕ) → count_at s zs ≤ count_at s ys) → IsChain links before zs None
        → IsChain new previous zs None
    back before [] is le lies = tt
    back before (y ∷ zs) is le lies = (
      before_tie links up _ _ _ _ (slot_in y) y before (head_or zs None) lies.0
          (last_behind (slot_in y) (grind (arith, count_here (slot_in y) y zs, le (slot_in y))))
          (sym is),
      chain_kept links new (Some (slot_in y)) None zs
          (λ s lt. ties s (last_behind s (grind (arith, le s, count_more s y zs)))
          (λ e. grind (arith, count_here s y zs, le s, once s))) lies.1,
    )

    pub relinked_here : (ms : List (Node T)) → IsHeld links up (xs ++ (ms ++ ys))
        → IsChain links (last_or None xs) ns (head_or ys None) → IsHeld new up (xs ++ (ns ++ ys))
    relinked_here ms held lies =
        let parts = chain_split links None None xs (ms ++ ys) held.chain in
        let rest = chain_split links (last_or None xs) None ms ys parts.1 in
        let first = first_put links up (last_or None xs) (head_or ys None) next previous l there in
        let last = last_put links up (last_or None xs) (head_or ys None) next previous l there in
        record {
          first = grind (arith, held.first, last_some, head_both);
          last = grind (arith, held.last, last_both);
          chain = chain_join new None None xs (ns ++ ys)
              (rw head_both (front None (head_or (ms ++ ys) None) xs refl (λ s. omega arith)
              parts.0))
              (chain_join new (last_or None xs) None ns ys
              (middle (last_or None xs) (head_or ys None) lies)
              (back (last_or (last_or None xs) ms) ys refl (λ s. omega arith) rest.1));
        }

    -- and those of another slot stay
    pub relinked_apart : (slot : ℕ) (zs : List (Node T)) → slot ≢ up
        → ((s : ℕ) → 0 < count_at s zs → (count_at s xs ≡ 0) × (count_at s ys ≡ 0))
        → IsHeld links slot zs → IsHeld new slot zs
    relinked_apart slot zs other apart held = held_kept links new slot zs
        (λ s lt. let none = apart s lt in ties s
        (λ is. let some = last_counted s xs is in omega (arith, none, some))
        (λ is. let some = head_counted s ys is in omega (arith, none, some)))
        (beside_first links up _ _ _ _ slot other) (beside_last links up _ _ _ _ slot other) held

-- ==== links whose children are linked: what they have, and after a child is added or removed

module _ {T : Type 0} where
  -- ---- what links say

  abbrev pub upper : Option (Link T) → Option (Node T)
  upper None = None
  upper (Some l) = l.parent

  pub parent_from : (links : List (Link T)) (s : ℕ)
      → parent_at (families links) s ≡ upper (slice_get links s)
  parent_from links s =
      grind (arith, unwrap_or-slice_get (families links) s alone, slice_get-map (family_in links) links s)

  pub children_from : (links : List (Link T)) (s : ℕ)
      → children_at (families links) s ≡ chain links (length links) (first_of (slice_get links s))
  children_from links s = grind (arith, unwrap_or-slice_get (families links) s alone, slice_get-map)

  pub children_held : (links : List (Link T)) (s : ℕ) (xs : List (Node T)) → IsHeld links s xs
      → length xs ≤ length links → children_at (families links) s ≡ xs
  children_held links s xs held le = grind (arith, children_from, chain_is)

  pub children_short : (links : List (Link T)) (s : ℕ)
      → length (children_at (families links) s) ≤ length links
  children_short links s = grind (arith, chain_short, children_from)

  -- links, no fewer than others, that hold what these have of a slot, have its children, and its family
  children_like : (old new_links : List (Link T)) (s : ℕ) → length old ≤ length new_links
      → IsHeld new_links s (children_at (families old) s) → children_at (families new_links) s ≡ children_at (families old) s
  children_like old new_links s le held = grind (arith, children_held, children_short old s)

  pub family_like : (old new_links : List (Link T)) (s : ℕ) → length old ≤ length new_links
      → IsHeld new_links s (children_at (families old) s) → upper (slice_get new_links s) ≡ upper (slice_get old s)
      → family_at (families new_links) s ≡ family_at (families old) s
  family_like old new_links s le held same = grind (arith, parent_from new_links s, parent_from old s, children_like)

  -- they are linked if they have the same for each slot, or another list of one
  pub linked_like : (old new_links : List (Link T)) → length old ≤ length new_links
      → ((s : ℕ) → IsHeld new_links s (children_at (families old) s)) → AreChildrenLinked new_links
  linked_like old new_links le held s = subst (IsHeld new_links s) (sym (children_like old new_links s le (held s))) (held s)

  linked_but : (old new_links : List (Link T)) (up : ℕ) (here : List (Node T)) → length old ≤ length new_links
      → IsHeld new_links up here → length here ≤ length new_links
      → ((s : ℕ) → s ≢ up → IsHeld new_links s (children_at (families old) s)) → AreChildrenLinked new_links
  linked_but old new_links up here le held short others s =
      grind (arith, children_held new_links up here held short, children_like, cases_eq s up)

  -- they have the same if one link is changed in no end, and in no tie of a listed slot
  pub changed_held : (links : List (Link T)) → AreChildrenLinked links → (slot : ℕ) (f : Link T → Link T)
      → ((l : Link T) → (f l).first ≡ l.first) → ((l : Link T) → (f l).last ≡ l.last)
      → ((s : ℕ) → (count_at slot (children_at (families links) s) ≡ 0)
      ⊎ ((l : Link T) → tie_of (Some (f l)) ≡ tie_of (Some l)))
      → (s : ℕ) → IsHeld (changed links slot f) s (children_at (families links) s)
  changed_held links linked slot f first last off s =
      held_kept links (changed links slot f) s (children_at (families links) s)
      (λ i lt. ⊎_elim (λ none. ap tie_of (changed_apart links slot f i
      (λ is. let all = ap (λ k. count_at k (children_at (families links) s)) is in
      omega (arith, lt, none, all))))
      (λ same. changed_kept tie_of links slot f same i) (off s))
      (changed_kept first_of links slot f first s) (changed_kept last_link_of links slot f last s)
      (linked s)

  -- ---- forests

  module _ (fs : List (Family T)) (f : IsForest fs) where
    pub once_each : (up s : ℕ) → count_at s (children_at fs up) ≤ 1
    once_each up s = grind (arith, slot_cases (above fs s) up)

    pub child_above : (up s : ℕ) → 0 < count_at s (children_at fs up) → above fs s ≡ Some up
    child_above up s lt = grind arith

    -- what is among the children of one slot isn't among those of another
    pub none_beside : (up other s : ℕ) → other ≢ up → 0 < count_at s (children_at fs other)
        → count_at s (children_at fs up) ≡ 0
    none_beside up other s ne lt = grind (arith, child_above other s lt)

  -- what is among children has a link
  pub child_within : (links : List (Link T)) → IsForest (families links) → (up s : ℕ)
      → 0 < count_at s (children_at (families links) up) → s < length links
  child_within links f up s lt =
      let over = child_above (families links) f up s lt in
      grind (arith, slot_within (families links) s up, length-map)

  -- and so has a parent
  pub top_within : (links : List (Link T)) → IsForest (families links) → (s : ℕ) (parent : Node T)
      → parent_at (families links) s ≡ Some parent → slot_in parent < length links
  top_within links f s parent has =
      grind (arith, above_within (families links) f s (slot_in parent) (ap slot_of has), length-map)

  -- ---- lists in two parts

  -- what is in a list is in it behind others too
  pub get_behind : (xs ys : List (Node T)) (k : ℕ) (y : Node T) → slice_get ys k ≡ Some y
      → (j : ℕ) × (slice_get (xs ++ ys) j ≡ Some y)
  get_behind [] ys k y at = (k, at)
  get_behind (x ∷ xs) ys k y at = let rest = get_behind xs ys k y at in (suc rest.0, rest.1)

  insert_here : (xs ys : List (Node T)) (n : Node T) → insert (xs ++ ys) (length xs) n ≡ xs ++ n ∷ ys
  insert_here [] ys n = refl
  insert_here (x ∷ xs) ys n = ap (λ rest. x ∷ rest) (insert_here xs ys n)

  -- a node that is counted_kids parts a list
  pub among : (n : Node T) (cs : List (Node T)) → 0 < count_at (slot_in n) cs
      → ((k : ℕ) (x : Node T) → slice_get cs k ≡ Some x → slot_in x ≡ slot_in n → is_same x n ≡ true)
      → IsAmong cs n
  among n [] lt alike = absurd (omega (arith, lt))
  among n (c ∷ cs) lt alike = ⊎_elim
      (λ is. record { front = []; here = c; back = cs; whole = refl; slot = same_slot c n is; place = grind arith })
      (λ other.
      let rest = among n cs (grind (arith, alike 0 c refl, count_apart (slot_in n) c cs)) (λ k. alike (suc k)) in record {
        front = c ∷ rest.front;
        here = rest.here;
        back = rest.back;
        whole = grind arith;
        slot = rest.slot;
        place = grind arith;
      })
      (cases_Bool (is_same c n))

  pub without_one : (n c : Node T) (xs ys : List (Node T)) → is_same c n ≡ true
      → count_at (slot_in n) xs ≡ 0 → count_at (slot_in n) ys ≡ 0
      → without n (xs ++ c ∷ ys) ≡ xs ++ ys
  without_one n c xs ys same none free = grind (arith, filter-append, same_without)

  -- ---- the slots beside a spot

  module _ (links : List (Link T)) (up : ℕ) (linked : AreChildrenLinked links) where
    abbrev cs : List (Node T)
    cs = children_at (families links) up

    pub gap_first : (at : Node T) (l : Link T) → slice_get links up ≡ Some l
        → IsGap cs (spot.FirstOf at) (None, l.first)
    gap_first at l there = grind arith

    pub gap_last : (at : Node T) (l : Link T) → slice_get links up ≡ Some l
        → IsGap cs (spot.LastOf at) (l.last, None)
    gap_last at l there = grind (arith, append-nil)

    -- a child lies between the both_ends of the two parts that it parts
    pub between : (xs : List (Node T)) (c : Node T) (ys : List (Node T)) → cs ≡ xs ++ c ∷ ys
        → tie_of (slice_get links (slot_in c)) ≡ Some (c, last_or None xs, head_or ys None)
    between xs c ys whole =
        (chain_split links None None xs (c ∷ ys)
        (subst (IsHeld links up) whole (linked up)).chain).1.0

    pub among_within : (by : Node T) → IsAmong cs by → slot_in by < length links
    among_within by is = grind (arith, tied_within, between, slice_get_within)

    module _ (by : Node T) (is : IsAmong cs by) (node : Node T) (before after : Option ℕ)
        (tie : tie_of (slice_get links (slot_in by)) ≡ Some (node, before, after)) where
      pub sides : ◌≡◌ {A = Node T × Option ℕ × Option ℕ} (node, before, after)
          (is.here, last_or None is.front, head_or is.back None)
      sides = grind (arith, between is.front is.here is.back is.whole)

      pub gap_before : IsGap cs (spot.Before by) (before, Some (slot_in by))
      gap_before = grind (arith, insert_here, sides)

      pub gap_after : IsGap cs (spot.After by) (Some (slot_in by), after)
      gap_after = record {
        front = is.front ++ is.here ∷ [];
        back = is.back;
        whole = is.whole ∙ sym (append_assoc is.front (is.here ∷ []) is.back);
        put = λ n. grind (arith, insert_here (is.front ++ is.here ∷ []) is.back n, append_assoc, length-append);
        before = ap Some (sym is.slot) ∙ sym (last_both None is.front (is.here ∷ []));
        after = ap (λ t. t.2) sides;
      }

  -- ---- what is left of a walk over children

  walk_next : (links : List (Link T)) (before : Option ℕ) (zs : List (Node T)) (s : ℕ) → length zs ≤ length links
      → IsChain links before zs None → head_or zs None ≡ Some s
      → (l : Link T) × (slice_get links s ≡ Some l) × (zs ≡ l.node ∷ chain links (length links) l.after)
      × IsRest links l.after
  walk_next links before [] s le lies is = absurd (none-some s is)
  walk_next links before (c ∷ cs) s le lies is =
      let there = tied_within links (slot_in c) (c, before, head_or cs None) lies.0 in
      let left = chain_is links (Some (slot_in c)) cs (length links) lies.1 (omega (arith, le)) in (
        there.0,
        grind arith,
        grind arith,
        record { before = Some (slot_in c); first = grind arith; lies = grind arith },
      )

  -- its first slot has a link
  pub rest_within : (links : List (Link T)) (next : Option ℕ) (s : ℕ) → IsRest links next → next ≡ Some s
      → s < length links
  rest_within links next s rest is = grind (arith, walk_next, chain_short, slice_get_within)

  -- the same, as the link is read
  pub rest_read : (links : List (Link T)) (next : Option ℕ) (s : ℕ) (l : Link T) → IsRest links next
      → next ≡ Some s → slice_get links s ≡ Some l
      → (chain links (length links) next ≡ l.node ∷ chain links (length links) l.after) × IsRest links l.after
  rest_read links next s l rest is read = grind (arith, walk_next, chain_short)

  -- ---- another slot

  module _ (links : List (Link T)) (linked : AreChildrenLinked links) (l : Link T) (root : l.parent ≡ None)
      (first : l.first ≡ None) (last : l.last ≡ None) where
    abbrev longer : List (Link T)
    longer = links ++ l ∷ []

    more : length links ≤ length longer
    more = let long = length-append links (l ∷ []) in omega (arith, long)

    grown : (before after : Option ℕ) (xs : List (Node T)) → IsChain links before xs after
        → IsChain longer before xs after
    grown before after [] is = tt
    grown before after (x ∷ xs) is = grind (arith, tied_within, pushed_old, grown (Some (slot_in x)) after xs is.1)

    longer_held : (s : ℕ) → IsHeld longer s (children_at (families links) s)
    longer_held s = grind (arith, pushed_kept first_of l first links s, pushed_kept last_link_of l last links s, grown)

    pub opened_linked : AreChildrenLinked longer
    opened_linked = linked_like links longer more longer_held

    pub opened_is : (slot : ℕ) → slot ≡ length links → IsOpened (families links) slot (families longer)
    opened_is slot at = record {
      same = λ s. family_like links longer s more (longer_held s) (pushed_kept upper l root links s);
      old = λ lt. grind (arith, length-map);
      next = λ is. grind (arith, length-map, length-append);
    }

  -- ---- a slot left alone

  pub record IsBared (links : List (Link T)) (slot : ℕ) (new_links : List (Link T)) : Type 0 where
    pub linked : AreChildrenLinked new_links
    pub long : length new_links ≡ length links
    pub alone : family_at (families new_links) slot ≡ alone
    pub others : (s : ℕ) → s ≢ slot → family_at (families new_links) s ≡ family_at (families links) s
    pub noted : (s : ℕ) → noted new_links s ≡ noted links s

  module _ (links : List (Link T)) (linked : AreChildrenLinked links) (slot : ℕ) (lt : slot < length links) where
    abbrev bare : Link T → Link T
    bare l = record l { parent = None; first = None; last = None }

    abbrev bared : List (Link T)
    bared = changed links slot bare

    bared_length : length links ≤ length bared
    bared_length = let same = changed_length links slot bare in omega (arith, same)

    bare_there : (l : Link T) × (slice_get bared slot ≡ Some (bare l))
    bare_there = let l = link_there links slot lt in (l.0, changed_here links slot bare l.0 l.1)

    bared_here : IsHeld bared slot []
    bared_here = record { first = ap first_of bare_there.1; last = ap last_link_of bare_there.1; chain = tt }

    bared_apart : (s : ℕ) → s ≢ slot → IsHeld bared s (children_at (families links) s)
    bared_apart s ne =
        grind (arith, held_kept, changed_kept tie_of links slot bare (λ l. refl), changed_apart links slot bare s ne)

    pub bared_by : IsBared links slot bared
    bared_by = record {
      linked = linked_but links bared slot [] bared_length bared_here (omega arith) bared_apart;
      long = changed_length links slot bare;
      alone = let none = children_held bared slot [] bared_here (omega arith) in
          grind (arith, parent_from bared slot, bare_there);
      others = λ s ne. grind (arith, family_like, bared_length, bared_apart, changed_apart);
      noted = changed_kept node_in links slot bare (λ l. refl);
    }

  -- ---- the children of one slot are linked anew

  abbrev kids : List (Link T) → ℕ → List (Node T)
  kids links s = children_at (families links) s

  -- what such links have
  pub record IsAnew (links base : List (Link T)) (up : ℕ) (list : List (Node T))
      (new_links : List (Link T)) : Type 0 where
    pub linked : AreChildrenLinked new_links
    pub long : length (families new_links) ≡ length (families links)
    pub here : kids new_links up ≡ list
    pub others : (s : ℕ) → s ≢ up → kids new_links s ≡ kids links s
    pub parents : (s : ℕ) → parent_at (families new_links) s ≡ upper (slice_get base s)
    pub noted : (s : ℕ) → noted new_links s ≡ noted base s

  module _ (links base : List (Link T)) (f : IsForest (families links)) (up : ℕ)
      (xs ms ns ys : List (Node T)) (whole : kids links up ≡ xs ++ (ms ++ ys))
      (within : up < length links) (long : length base ≡ length links)
      (held : (s : ℕ) → IsHeld base s (kids links s))
      (lies : IsChain base (last_or None xs) ns (head_or ys None))
      (fresh : (s : ℕ) → 0 < count_at s ns
      → (s < length links) × (count_at s ns + count_at s (kids links up) ≡ 1)) where
    counted_kids : (s : ℕ) → count_at s (kids links up) ≡ count_at s xs + (count_at s ms + count_at s ys)
    counted_kids s = ap (count_at s) whole ∙ count_parts s xs ms ys

    once : (s : ℕ) → count_at s xs + (count_at s ns + count_at s ys) ≤ 1
    once s =
        let le = once_each (families links) f up s in
        grind (arith, counted_kids s, fresh s, cases_lt 0 (count_at s ns))

    abbrev new_links : List (Link T)
    new_links = relinked base up xs ns ys

    new_length : length new_links ≡ length links
    new_length = beside_length base up _ _ _ _ ∙ long

    enough : length links ≤ length new_links
    enough = omega (arith, new_length)

    there : (l : Link T) × (slice_get base up ≡ Some l)
    there = link_there base up (omega (arith, within, long))

    here : IsHeld new_links up (xs ++ (ns ++ ys))
    here = relinked_here base up there.0 there.1 xs ns ys once ms
        (subst (IsHeld base up) whole (held up)) lies

    few : length (xs ++ (ns ++ ys)) ≤ length new_links
    few = rw new_length (short (xs ++ (ns ++ ys)) (length links)
        (λ s. rw count_parts (once s))
        (λ s lt. let all = count_parts s xs ns ys in let old = counted_kids s in
        grind (arith, fresh s, child_within links f up s, cases_lt 0 (count_at s ns))))

    apart : (s : ℕ) → s ≢ up → IsHeld new_links s (kids links s)
    apart s ne = relinked_apart base up there.0 there.1 xs ns ys once s (kids links s) ne
        (λ i lt. let all = counted_kids i in let none = none_beside (families links) f up s i ne lt in
        (omega (arith, all, none), omega (arith, all, none))) (held s)

    pub anew : IsAnew links base up (xs ++ (ns ++ ys)) new_links
    anew = record {
      linked = linked_but links new_links up (xs ++ (ns ++ ys)) enough here few apart;
      long = same_length new_links links new_length;
      here = children_held new_links up (xs ++ (ns ++ ys)) here few;
      others = λ s ne. children_like links new_links s enough (apart s ne);
      parents = λ s. parent_from new_links s ∙ beside_kept base up _ _ _ _ upper (λ l f e b a. refl) s;
      noted = beside_kept base up _ _ _ _ node_in (λ l f e b a. refl);
    }

  -- the both_ends of both parts of some children have links
  side_within : (links : List (Link T)) → IsForest (families links) → (up : ℕ)
      (xs ms ys : List (Node T)) → kids links up ≡ xs ++ (ms ++ ys) → (s : ℕ)
      → (last_or None xs ≡ Some s) ⊎ (head_or ys None ≡ Some s) → s < length links
  side_within links f up xs ms ys whole s side =
      let all = ap (count_at s) whole ∙ count_parts s xs ms ys in
      child_within links f up s (grind (arith, last_counted s xs, head_counted s ys))

  -- ---- another child

  pub gap_within : (links : List (Link T)) → IsForest (families links) → (up : ℕ) (at : Spot T)
      (gap : Option ℕ × Option ℕ) → IsGap (kids links up) at gap → (s : ℕ)
      → (gap.0 ≡ Some s) ⊎ (gap.1 ≡ Some s) → s < length links
  gap_within links f up at gap is s side = side_within links f up is.front [] is.back is.whole s
      (⊎_elim (λ e. inl (sym is.before ∙ e)) (λ e. inr (sym is.after ∙ e)) side)

  -- what an attaching leaves
  pub record HasChild (links : List (Link T)) (parent : Node T) (at : Spot T) (child : Node T)
      (final : List (Link T)) : Type 0 where
    pub linked : AreChildrenLinked final
    pub attached : IsAttached (families links) parent at child (families final)
    pub others : (s : ℕ) → s ≢ slot_in child → noted final s ≡ noted links s
    pub noted : noted final (slot_in child) ≡ Some child

  fresh_at : (n : ℕ) (c : Node T) (cs : List (Node T)) → slot_in c < n → count_at (slot_in c) cs ≡ 0
      → (s : ℕ) → 0 < count_at s (c ∷ []) → (s < n) × (count_at s (c ∷ []) + count_at s cs ≡ 1)
  fresh_at n c cs lc none s lt = grind (arith, count_apart, count_here, cases_eq)

  module _ (links : List (Link T)) (linked : AreChildrenLinked links) (f : IsForest (families links))
      (parent child : Node T) (at : Spot T) (within : slot_in parent < length links)
      (lc : slot_in child < length links) (root : above (families links) (slot_in child) ≡ None)
      (b a : Option ℕ) (is : IsGap (kids links (slot_in parent)) at (b, a)) where
    abbrev up : ℕ
    up = slot_in parent

    abbrev slot : ℕ
    slot = slot_in child

    abbrev put_in : Link T → Link T
    put_in l = record l { node = child; parent = Some parent; before = b; after = a }

    abbrev put : List (Link T)
    put = changed links slot put_in

    unlisted : (s : ℕ) → count_at slot (kids links s) ≡ 0
    unlisted s = f.only slot s (λ some. none-some s (sym root ∙ some))

    child_there : (l : Link T) × (slice_get put slot ≡ Some (put_in l))
    child_there = let l = link_there links slot lc in (l.0, changed_here links slot put_in l.0 l.1)

    pub attached_by : HasChild links parent at child (beside put up b a (Some slot) (Some slot))
    attached_by = subst (λ (t : Option ℕ × Option ℕ). HasChild links parent at child
        (beside put up t.0 t.1 (Some slot) (Some slot))) (λ i. (sym is.before i, sym is.after i))
        (record {
          linked = left.linked;
          attached = record {
            long = left.long;
            here = left.parents slot ∙ ap upper child_there.1;
            parents = λ s ne. grind (arith, left.parents s, parent_from links s, changed_apart);
            listed = left.here ∙ sym (is.put child);
            others = left.others;
          };
          others = λ s ne. left.noted s ∙ ap node_in (changed_apart links slot put_in s ne);
          noted = left.noted slot ∙ ap node_in child_there.1;
        })
      where
        tied : tie_of (slice_get put slot)
            ≡ Some (child, last_or None is.front, head_or is.back None)
        tied = ap tie_of child_there.1 ∙ λ i. Some (child, is.before i, is.after i)

        left : IsAnew links put up (is.front ++ child ∷ is.back)
            (relinked put up is.front (child ∷ []) is.back)
        left = anew links put f up is.front [] (child ∷ []) is.back is.whole within
            (changed_length links slot put_in)
            (changed_held links linked slot put_in (λ l. refl) (λ l. refl) (λ s. inl (unlisted s)))
            (tied, tt) (fresh_at (length links) child (kids links up) lc (unlisted up))

  -- ---- a child less

  -- what a detaching leaves
  pub record HasNoParent (links : List (Link T)) (n : Node T) (new_links : List (Link T)) : Type 0 where
    pub linked : AreChildrenLinked new_links
    pub detached : IsDetached (families links) n (families new_links)
    pub noted : (s : ℕ) → noted new_links s ≡ noted links s

  module _ (links : List (Link T)) (linked : AreChildrenLinked links) (f : IsForest (families links))
      (node parent : Node T) (has : parent_at (families links) (slot_in node) ≡ Some parent)
      (alike : (s k : ℕ) (n : Node T) → slice_get (kids links s) k ≡ Some n
      → slot_in n ≡ slot_in node → is_same n node ≡ true) (n : Node T) (b a : Option ℕ)
      (tie : tie_of (slice_get links (slot_in node)) ≡ Some (n, b, a)) where
    abbrev top : ℕ
    top = slot_in parent

    abbrev own : ℕ
    own = slot_in node

    one : count_at own (kids links top) ≡ 1
    one = f.once own top (ap slot_of has)

    abbrev part : IsAmong (kids links top) node
    part = among node (kids links top) (omega (arith, one)) (alike top)

    both_ends : ◌≡◌ {A = Option ℕ × Option ℕ} (last_or None part.front, head_or part.back None) (b, a)
    both_ends = ap (λ t. (t.1, t.2)) (sym (sides links top linked node part n b a tie))

    pub beside_within : (s : ℕ) → (b ≡ Some s) ⊎ (a ≡ Some s) → s < length links
    beside_within s side =
        side_within links f top part.front (part.here ∷ []) part.back part.whole s (⊎_elim
        (λ is. inl (ap (λ t. t.0) both_ends ∙ is)) (λ is. inr (ap (λ t. t.1) both_ends ∙ is)) side)

    abbrev free : Link T → Link T
    free l = record l { parent = None }

    abbrev freed : List (Link T)
    freed = changed links own free

    rest_is : part.front ++ part.back ≡ without node (kids links top)
    rest_is = sym (ap (without node) part.whole
        ∙ without_one node part.here part.front part.back same (omega (arith, none))
        (omega (arith, none)))
      where
        same : is_same part.here node ≡ true
        same = let at = get_behind part.front (part.here ∷ part.back) 0 part.here refl in
            alike top at.0 part.here (ap (λ cs. slice_get cs at.0) part.whole ∙ at.1) part.slot

        none : count_at own part.front + count_at own part.back ≡ 0
        none =
            let parts = count_parts own part.front (part.here ∷ []) part.back in
            grind (arith, one, count_here own part.here [] part.slot, ap (count_at own) part.whole)

    pub detached_by : HasNoParent links node (beside freed top b a a b)
    detached_by =
        subst (HasNoParent links node) (ap (λ t. beside freed top t.0 t.1 t.1 t.0) both_ends) (record {
          linked = left.linked;
          detached = record {
            long = left.long;
            here = left.parents own ∙ ap upper there.1;
            parents = λ s ne. grind (arith, left.parents s, parent_from links s, changed_apart);
            lost = λ s is. grind (arith, left.here, rest_is);
            others = λ s ne. left.others s (λ same. ne (ap slot_of has ∙ ap Some (sym same)));
          };
          noted = λ s. left.noted s ∙ changed_kept node_in links own free (λ l. refl) s;
        })
      where
        there : (l : Link T) × (slice_get freed own ≡ Some (free l))
        there = grind (arith, tied_within, changed_here)

        left : IsAnew links freed top (part.front ++ part.back)
            (relinked freed top part.front [] part.back)
        left = anew links freed f top part.front (part.here ∷ []) [] part.back part.whole
            (top_within links f own parent has) (changed_length links own free)
            (changed_held links linked own free (λ l. refl) (λ l. refl) (λ s. inr (λ l. refl)))
            tt (λ s lt. absurd (omega (arith, lt)))

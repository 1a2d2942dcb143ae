-- The nodes beside another: how its links lead to them.
use Rattle.scene_tree.proofs.Moving.{append_assoc, ap, arith, between, children_at, families, head_or, IsAmong, AreChildrenLinked}
use Rattle.scene_tree.proofs.Moving.{last_or, Link, List, Node, node_in, None, noted, Option, refl, slot_in, slot_of}
use Rattle.scene_tree.proofs.Moving.{Some, subst, sym, tie_of, ℕ, ◌++◌, ◌∙◌, ◌∷◌, ◌≡◌, []}
use Rattle.std.specs.List.{last_or as last_item}
use Rattle.std.specs.Prelude.{◌+◌, length, slice_get, suc}
use Rattle.scene_tree.specs.Spots.{index_among}
use Rattle.scene_tree.specs.Siblings.{item_before, next_in, node_at, previous_in}

module _ {T : Type 0} where
  -- what is noted at a slot that has a tie
  tied_node : (o : Option (Link T)) (c : Node T) (before after : Option ℕ)
      → tie_of o ≡ Some (c, before, after) → node_in o ≡ Some c
  tied_node o c before after is = grind arith

  module _ (links : List (Link T)) (up : ℕ) (linked : AreChildrenLinked links) where
    noted_child : (xs : List (Node T)) (c : Node T) (ys : List (Node T))
        → children_at (families links) up ≡ xs ++ c ∷ ys → noted links (slot_in c) ≡ Some c
    noted_child xs c ys whole = tied_node (slice_get links (slot_in c)) c (last_or None xs) (head_or ys None)
        (between links up linked xs c ys whole)

    pub node_head : (xs ys : List (Node T)) → children_at (families links) up ≡ xs ++ ys
        → node_at links (head_or ys None) ≡ slice_get ys 0
    node_head xs [] whole = refl
    node_head xs (c ∷ ys) whole = noted_child xs c ys whole

    last_from : (o : Option (Node T)) (before xs ys : List (Node T))
        → children_at (families links) up ≡ before ++ (xs ++ ys)
        → node_at links (slot_of o) ≡ o → node_at links (last_or (slot_of o) xs) ≡ last_item o xs
    last_from o before [] ys whole is = is
    last_from o before (c ∷ xs) ys whole is = last_from (Some c) (before ++ c ∷ []) xs ys
        (whole ∙ sym (append_assoc before (c ∷ []) (xs ++ ys))) (noted_child before c (xs ++ ys) whole)

    pub node_last : (xs ys : List (Node T)) → children_at (families links) up ≡ xs ++ ys
        → node_at links (last_or None xs) ≡ last_item None xs
    node_last xs ys whole = last_from None [] xs ys whole refl

  -- ---- items of a list in two parts

  get_past : (front back : List (Node T)) (here : Node T)
      → slice_get (front ++ here ∷ back) (length front + 1) ≡ slice_get back 0
  get_past [] back here = refl
  get_past (x ∷ front) back here = grind (arith, get_past front back here)

  -- the item before the second part is the last of the first
  before_part : (o : Option (Node T)) (front back : List (Node T)) (x : Node T)
      → item_before (x ∷ (front ++ back)) (suc (length front)) ≡ last_item (Some x) front
  before_part o [] back x = refl
  before_part o (y ∷ front) back x = before_part o front back y

  before_whole : (front back : List (Node T)) → item_before (front ++ back) (length front) ≡ last_item None front
  before_whole [] back = refl
  before_whole (x ∷ front) back = before_part None front back x

  module _ (links : List (Link T)) (up : ℕ) (linked : AreChildrenLinked links) (n : Node T)
      (is : IsAmong (children_at (families links) up) n) where
    abbrev cs : List (Node T)
    cs = children_at (families links) up

    -- the tie of a node that is among the children of a slot
    pub tied : (node : Node T) (before after : Option ℕ)
        → tie_of (slice_get links (slot_in n)) ≡ Some (node, before, after)
        → (before ≡ last_or None is.front) × (after ≡ head_or is.back None)
    tied node before after tie = grind (arith, between links up linked is.front is.here is.back is.whole, is.slot)

    pub next_noted : (node : Node T) (before after : Option ℕ)
        → tie_of (slice_get links (slot_in n)) ≡ Some (node, before, after) → node_at links after ≡ next_in n cs
    next_noted node before after tie =
        ap (node_at links) (tied node before after tie).1
        ∙ (node_head links up linked (is.front ++ is.here ∷ []) is.back
        (is.whole ∙ sym (append_assoc is.front (is.here ∷ []) is.back))
        ∙ sym (subst (λ list. slice_get list (index_among n cs + 1) ≡ slice_get is.back 0) (sym is.whole)
        (subst (λ k. slice_get (is.front ++ is.here ∷ is.back) (k + 1) ≡ slice_get is.back 0) (sym is.place)
        (get_past is.front is.back is.here))))

    pub previous_noted : (node : Node T) (before after : Option ℕ)
        → tie_of (slice_get links (slot_in n)) ≡ Some (node, before, after) → node_at links before ≡ previous_in n cs
    previous_noted node before after tie =
        ap (node_at links) (tied node before after tie).0
        ∙ (node_last links up linked is.front (is.here ∷ is.back) is.whole
        ∙ sym (subst (λ list. item_before list (index_among n cs) ≡ last_item None is.front) (sym is.whole)
        (subst (λ k. item_before (is.front ++ is.here ∷ is.back) k ≡ last_item None is.front) (sym is.place)
        (before_whole is.front (is.here ∷ is.back)))))

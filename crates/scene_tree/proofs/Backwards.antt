-- Children from the last to the first: links read backwards.
use Rattle.scene_tree.proofs.Moving.{AreChildrenLinked, ap, arith, chain, chain_is, children_at, children_short, families, head_or}
use Rattle.scene_tree.proofs.Moving.{IsChain, IsRest, last_or, length, length-map, Link, List, Node, None, Option, option_map, refl}
use Rattle.scene_tree.proofs.Moving.{rest_read, rest_within, slice_get, slice_get-map, slot_in, Some, subst, sym, tie_of, ℕ}
use Rattle.scene_tree.proofs.Moving.{◌<◌, ◌∙◌, ◌∷◌, ◌≡◌, ◌≤◌, []}
use mathlib.Core.List.{reverse, reverse_aux}
use Rattle.scene_tree.specs.Chains.{backwards, last_link_of, turned}
use Rattle.std.proofs.lemmas.List.{length-reverse}
use Rattle.std.specs.Iterator.{YieldsFirst}
use Rattle.std.specs.List.{last_or as last_item}

module _ {T : Type 0} where
  turned_tie : (o : Option (Link T)) (n : Node T) (b a : Option ℕ) → tie_of o ≡ Some (n, b, a)
      → tie_of (option_map backwards o) ≡ Some (n, a, b)
  turned_tie o n b a is = grind arith

  -- the first of a list that is reversed is its last
  turned_head : (xs done : List (Node T)) → head_or (reverse_aux xs done) None ≡ last_or (head_or done None) xs
  turned_head [] done = refl
  turned_head (x ∷ xs) done = turned_head xs (x ∷ done)

  last_reversed : (o : Option (Node T)) (xs done : List (Node T)) → o ≡ slice_get done 0
      → last_item o xs ≡ slice_get (reverse_aux xs done) 0
  last_reversed o [] done is = is
  last_reversed o (x ∷ xs) done is = last_reversed (Some x) xs (x ∷ done) refl

  -- so the last is what a walk yields first
  first_yielded : (s t : List (Node T)) (r : Option (Node T)) → YieldsFirst (λ left. left) s r t → r ≡ slice_get s 0
  first_yielded s t r steps = grind arith

  pub last_yielded : (s t cs : List (Node T)) (r : Option (Node T)) → YieldsFirst (λ left. left) s r t
      → s ≡ reverse cs → r ≡ last_item None cs
  last_yielded s t cs r steps is =
      first_yielded s t r steps ∙ (ap (λ list. slice_get list 0) is ∙ sym (last_reversed None cs [] refl))

  module _ (links : List (Link T)) where
    -- what lies in links, behind what lies in them reversed, lies so too
    turned_chain : (b a : Option ℕ) (xs done : List (Node T)) → IsChain links b xs a → b ≡ head_or done None
        → IsChain (turned links) (head_or xs a) done None → IsChain (turned links) a (reverse_aux xs done) None
    turned_chain b a [] done lies is back = back
    turned_chain b a (c ∷ cs) done lies is back = turned_chain (Some (slot_in c)) a cs (c ∷ done) lies.1 refl (
      ap tie_of (slice_get-map backwards links (slot_in c))
          ∙ turned_tie (slice_get links (slot_in c)) c (head_or done None) (head_or cs a)
          (subst (λ o. tie_of (slice_get links (slot_in c)) ≡ Some (c, o, head_or cs a)) is lies.0),
      back,
    )

    module _ (linked : AreChildrenLinked links) (slot : ℕ) (l : Link T) (there : slice_get links slot ≡ Some l) where
      abbrev cs : List (Node T)
      cs = children_at (families links) slot

      lies : IsChain (turned links) None (reverse cs) None
      lies = turned_chain None None cs [] (linked slot).chain refl tt

      starts : l.last ≡ head_or (reverse cs) None
      starts = ap last_link_of (sym there) ∙ ((linked slot).last ∙ sym (turned_head cs []))

      -- a walk from a slot's last child meets its children, the last first
      pub turned_walk : chain (turned links) (length (turned links)) l.last ≡ reverse cs
      turned_walk = ap (chain (turned links) (length (turned links))) starts
          ∙ chain_is (turned links) None (reverse cs) (length (turned links)) lies short
        where
          short : length (reverse cs) ≤ length (turned links)
          short = omega (arith, length-reverse cs, children_short links slot, length-map links backwards)

      pub turned_rest : IsRest (turned links) l.last
      turned_rest = record {
        before = None;
        first = starts ∙ ap (λ list. head_or list None) (sym turned_walk);
        lies = subst (λ list. IsChain (turned links) None list None) (sym turned_walk) lies;
      }

    -- a step of such a walk
    pub turned_within : (next : Option ℕ) (s : ℕ) → IsRest (turned links) next → next ≡ Some s → s < length links
    turned_within next s rest is =
        let lt = rest_within (turned links) next s rest is in omega (arith, lt, length-map links backwards)

    pub turned_read : (next : Option ℕ) (s : ℕ) (l : Link T) → IsRest (turned links) next → next ≡ Some s
        → slice_get links s ≡ Some l
        → (chain (turned links) (length (turned links)) next
        ≡ l.node ∷ chain (turned links) (length (turned links)) l.before) × IsRest (turned links) l.before
    turned_read next s l rest is read = rest_read (turned links) next s (backwards l) rest is
        (slice_get-map backwards links s ∙ ap (option_map backwards) read)

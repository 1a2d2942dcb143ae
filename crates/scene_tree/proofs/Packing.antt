-- Links as they lie packed: what is read of them, and what a write of one part leaves.
use Rattle.std.proofs.Common.{ap, arith, length, List, refl, Some, suc, sym, zero, ℕ, [], ◌++◌, ◌+◌, ◌<◌, ◌∙◌}
use Rattle.std.proofs.Common.{◌∷◌, ◌≡◌}
use Rattle.std.specs.Prelude.{slice_get, slice_index_or, slice_set}
use Rattle.handles.specs.Handles.{at_slot, id_in}
use Rattle.scene_tree.specs.Chains.{changed, LinkState}
use Rattle.scene_tree.specs.Nodes.{Node}
use Rattle.scene_tree.specs.Packing.{unpacked, unpacked_from}
use Rattle.scene_tree.specs.declared.links.Link.{Link}
use Rattle.scene_tree.specs.declared.packed.PackedLink.{PackedLink}

module _ (T : Type 0) (number : ℕ) where
  abbrev links_from : ℕ → List PackedLink → List (Link T)
  links_from k ps = unpacked_from {T = T} number k ps

  pub unpacked_length : (k : ℕ) (ps : List PackedLink) → length (links_from k ps) ≡ length ps
  unpacked_length k [] = refl
  unpacked_length k (p ∷ ps) = ap suc (unpacked_length (suc k) ps)

  -- what is read at a slot
  pub unpacked_at : (k : ℕ) (ps : List PackedLink) (i s : ℕ) (p : PackedLink) → s ≡ k + i → i < length ps
      → p ≡ slice_index_or ps i p → slice_get (links_from k ps) i ≡ Some (unpacked number s p)
  unpacked_at k [] i s p is lt read = absurd (omega (arith, lt))
  unpacked_at k (q ∷ ps) zero s p is lt read = grind arith
  unpacked_at k (q ∷ ps) (suc i) s p is lt read =
      unpacked_at (suc k) ps i s p (omega (arith, is)) (omega (arith, lt)) read

  -- what replaces the value that was read
  pub repacked : (k : ℕ) (ps : List PackedLink) (i s : ℕ) (p q : PackedLink) (f : Link T → Link T) → s ≡ k + i
      → p ≡ slice_index_or ps i p → unpacked number s q ≡ f (unpacked number s p)
      → links_from k (slice_set ps i q) ≡ changed (links_from k ps) i f
  repacked k [] i s p q f is read put = refl
  repacked k (o ∷ ps) zero s p q f is read put = grind arith
  repacked k (o ∷ ps) (suc i) s p q f is read put =
      ap (λ rest. unpacked number k o ∷ rest) (repacked (suc k) ps i s p q f (omega (arith, is)) read put)

  -- another at the end
  pub unpacked_more : (k : ℕ) (ps : List PackedLink) (s : ℕ) (p : PackedLink) → s ≡ k + length ps
      → links_from k (ps ++ p ∷ []) ≡ links_from k ps ++ unpacked number s p ∷ []
  unpacked_more k [] s p is = grind arith
  unpacked_more k (o ∷ ps) s p is =
      ap (λ rest. unpacked number k o ∷ rest) (unpacked_more (suc k) ps s p (omega (arith, is)))

module _ {T : Type 0} where
  -- a handle with the parts of a packed one
  pub handle_is : (number slot site generation : ℕ) (h : Node T)
      → id_in h ≡ record { store = number; slot = slot; generation = generation } → h.site ≡ site
      → h ≡ at_slot number slot site generation
  handle_is number slot site generation h id at = grind arith

  -- a slot of the links is one of the packed ones
  pub packed_within : (number room : ℕ) (ps : List PackedLink) (t : LinkState T) (slot : ℕ)
      → record { number = number; items = unpacked_from number 0 ps; room = room } ≡ t → slot < length t.items
      → slot < length ps
  packed_within number room ps t slot same lt =
      omega (arith, lt, ap (λ t. length t.items) same, unpacked_length T number 0 ps)

  pub packed_length : (number room : ℕ) (ps : List PackedLink) (t : LinkState T)
      → record { number = number; items = unpacked_from number 0 ps; room = room } ≡ t → length t.items ≡ length ps
  packed_length number room ps t same =
      sym (ap (λ t. length t.items) same) ∙ unpacked_length T number 0 ps

  pub packed_room : (number room : ℕ) (ps : List PackedLink) (t : LinkState T)
      → record { number = number; items = unpacked_from number 0 ps; room = room } ≡ t → t.room ≡ room
  packed_room number room ps t same = sym (ap (λ t. t.room) same)

-- The items of chunks.
use Rattle.std.proofs.Common.{◌≡◌, ℕ, ◌+◌, suc, ◌<◌, List, [], ◌∷◌, ◌++◌, length, take, sym, ap}
use Rattle.std.proofs.Common.{◌∙◌, arith, length-append, get_or}
use Rattle.std.specs.Global.{Vec}
use Rattle.std.specs.Prelude.{◌≤◌, vec_capacity}
use Rattle.std.specs.Vec.{vec_items}
use Rattle.std.proofs.Math.Seq.{take-suc}
use Rattle.std.proofs.lemmas.List.{append-nil, append_assoc}
use Rattle.shared_chunks.specs.Listed.{AreLarge, joined_chunks}

module _ {X : Type 0} where
  -- with another chunk
  pub joined_snoc : (chunks : List (Vec X)) (chunk : Vec X)
      → joined_chunks (chunks ++ chunk ∷ []) ≡ joined_chunks chunks ++ vec_items chunk
  joined_snoc [] chunk = append-nil (vec_items chunk)
  joined_snoc (c ∷ cs) chunk =
      ap (λ xs. vec_items c ++ xs) (joined_snoc cs chunk)
      ∙ sym (append_assoc (vec_items c) (joined_chunks cs) (vec_items chunk))

  -- the items of the first chunks and of another one
  pub joined_take : (chunks : List (Vec X)) (i : ℕ) (d : Vec X) → i < length chunks
      → joined_chunks (take (i + 1) chunks) ≡ joined_chunks (take i chunks) ++ vec_items (get_or chunks i d)
  joined_take chunks i d h =
      let next : i + 1 ≡ suc i = omega arith in
      ap (λ k. joined_chunks (take k chunks)) next
      ∙ (ap joined_chunks (take-suc chunks i d h) ∙ joined_snoc (take i chunks) (get_or chunks i d))

  -- how many items full chunks have with another chunk
  pub joined_len : (full more : List (Vec X)) (last : Vec X) (n : ℕ) → more ≡ full ++ last ∷ []
      → n ≡ length (joined_chunks full) → n + length (vec_items last) ≡ length (joined_chunks more)
  joined_len full more last n is_more had =
      let all = ap (λ cs. length (joined_chunks cs)) is_more ∙ ap length (joined_snoc full last) in
      let both = length-append (joined_chunks full) (vec_items last) in
      omega arith

  -- another large chunk
  pub large_snoc : (chunks : List (Vec X)) (chunk : Vec X) → AreLarge chunks → 1024 ≤ vec_capacity chunk
      → AreLarge (chunks ++ chunk ∷ [])
  large_snoc [] chunk l h = (h, tt)
  large_snoc (c ∷ cs) chunk l h = (l.0, large_snoc cs chunk l.1 h)

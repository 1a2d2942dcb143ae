-- Lists that are compared, and copied, one by one.
use Rattle.std.proofs.Common.{add-one, Bool, drop, get_or, length, List, refl, sym, take, ℕ}
use Rattle.std.proofs.Common.{[], ◌++◌, ◌+◌, ◌<◌, ◌∙◌, ◌∷◌, ◌≡◌}
use Rattle.std.proofs.Math.Seq.{drop-cons}
use Rattle.std.proofs.lemmas.List.{take_more}
use Rattle.std.specs.Prelude.{◌&&◌}
use Rattle.std.specs.Cmp.Lexicographic.{pointwise}

module _ {T : Type 0} (E : T → T → Bool) (xs ys : List T) (i : ℕ) (x y : T)
    (in_xs : i < length xs) (in_ys : i < length ys) (x_is : x ≡ get_or xs i x) (y_is : y ≡ get_or ys i y) where
  at_xs : drop i xs ≡ x ∷ drop (i + 1) xs
  at_xs = drop-cons xs i x in_xs ∙ (λ j. sym x_is j ∷ drop (sym (add-one i) j) xs)

  at_ys : drop i ys ≡ y ∷ drop (i + 1) ys
  at_ys = drop-cons ys i y in_ys ∙ (λ j. sym y_is j ∷ drop (sym (add-one i) j) ys)

  -- the first of those that are left decide with the others
  pub one_same : pointwise E (drop i xs) (drop i ys) ≡ (E x y && pointwise E (drop (i + 1) xs) (drop (i + 1) ys))
  one_same = rw (at_xs, at_ys) refl

  pub one_more : x ≡ y → take i xs ≡ take i ys → take (i + 1) xs ≡ take (i + 1) ys
  one_more same before = take_more xs i x in_xs
      ∙ ((λ j. before j ++ (sym x_is ∙ (same ∙ y_is)) j ∷ []) ∙ sym (take_more ys i y in_ys))

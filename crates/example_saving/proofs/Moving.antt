-- What rows list under another number.
use Rattle.std.proofs.Common.{◌≡◌, ◌∙◌, ◌∷◌, ◌++◌, List, Bool, [], None, Some, ap, arith, false, map, refl, sym, true}
use Rattle.std.proofs.lemmas.Option.{same_Some}
use Rattle.generational_core.specs.declared.boxes.GenerationalBoxId.{GenerationalBoxId}
use Rattle.scene_tree.specs.Parts.{children_told, is_id}
use Rattle.scene_tree.specs.declared.parts.ChildRow.{ChildRow}
use Rattle.store_images.specs.Adopting.{adopted}
use Rattle.store_images.specs.declared.loaded.Loaded.{Loaded}
use Rattle.example_saving.specs.Moving.{AreAdopted, IsAdopted}

-- with one more row
pub adopted_more : (l : Loaded) (xs ys : List ChildRow) (x y : ChildRow) → AreAdopted l xs ys → IsAdopted l x y
    → AreAdopted l (xs ++ x ∷ []) (ys ++ y ∷ [])
adopted_more l [] [] x y are is = (is, tt)
adopted_more l (r ∷ xs) (q ∷ ys) x y are is = (are.0, adopted_more l xs ys x y are.1 is)
adopted_more l [] (q ∷ ys) x y are is = absurd are
adopted_more l (r ∷ xs) [] x y are is = absurd are

module _ (l : Loaded) (a b c d : GenerationalBoxId) (first : adopted l a ≡ Some c) (second : adopted l b ≡ Some d) where
  -- ids are equal exactly if what they become is
  same_ids : is_id a b ≡ is_id c d
  same_ids = grind (arith, first, second)

pub children_adopted : (l : Loaded) (xs ys : List ChildRow) → AreAdopted l xs ys → (id to : GenerationalBoxId)
    → adopted l id ≡ Some to → map Some (children_told ys to) ≡ map (adopted l) (children_told xs id)
children_adopted l [] [] are id to is = refl
children_adopted l [] (q ∷ ys) are id to is = absurd are
children_adopted l (r ∷ xs) [] are id to is = absurd are
children_adopted l (r ∷ xs) (q ∷ ys) are id to is =
    by (is_id q.parent to) refl (same_ids l r.parent id q.parent to are.0.1 is) (children_adopted l xs ys are.1 id to is)
  where
    by : (b : Bool) → is_id q.parent to ≡ b → is_id r.parent id ≡ is_id q.parent to
        → map Some (children_told ys to) ≡ map (adopted l) (children_told xs id)
        → map Some (children_told (q ∷ ys) to) ≡ map (adopted l) (children_told (r ∷ xs) id)
    by true here same rest = rw (here, same ∙ here) (λ i. sym are.0.0 i ∷ rest i)
    by false other same rest = rw (other, same ∙ other) rest

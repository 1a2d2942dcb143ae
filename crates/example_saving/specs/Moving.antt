-- Rows of a tree under another number.
use Rattle.std.specs.Prelude.{◌≡◌, List, [], ◌∷◌, Some}
use Rattle.scene_tree.specs.declared.parts.ChildRow.{ChildRow}
use Rattle.store_images.specs.Adopting.{adopted}
use Rattle.store_images.specs.declared.loaded.Loaded.{Loaded}

-- both ids of a row were adopted
abbrev pub IsAdopted : Loaded → ChildRow → ChildRow → Type 0
IsAdopted l old new = (adopted l old.child ≡ Some new.child) × (adopted l old.parent ≡ Some new.parent)

-- those of all rows were
abbrev pub AreAdopted : Loaded → List ChildRow → List ChildRow → Type 0
AreAdopted l [] [] = Unit {0}
AreAdopted l (r ∷ rows) (q ∷ moved) = IsAdopted l r q × AreAdopted l rows moved
AreAdopted l _ _ = ⊥

-- A closure's calls on handles and their values, in order.
use Rattle.std.specs.Prelude.{◌≡◌, List, map}
use Rattle.std.specs.Borrow.{MutBor}
use Rattle.std.specs.Fn.{Called, Mut}
use Rattle.std.specs.List.{FoldsTo}

-- a call of f at a handle and a `&mut` to v may leave f' and w
pub record CalledOn {F H V : Type 0}
    (g : Mut F (H × (MutBor V × Unit {0})) (Unit {0} × (MutBor V × Unit {0})))
    (f : F) (h : H) (v w : V) (f' : F) : Type 0 where
  pub shown : MutBor V
  pub shows : shown.now ≡ v
  pub left : MutBor V
  pub called : Called g f (h, (shown, tt)) (tt, (left, tt)) f'
  pub leaves : left.now ≡ w

-- a call of f at a handle and `&mut` to two values may leave f' and two others
pub record CalledOnBoth {F H V W : Type 0}
    (g : Mut F (H × (MutBor V × (MutBor W × Unit {0}))) (Unit {0} × (MutBor V × (MutBor W × Unit {0}))))
    (f : F) (h : H) (x y : V × W) (f' : F) : Type 0 where
  pub first : MutBor V
  pub second : MutBor W
  pub shows : (first.now ≡ x.0) × (second.now ≡ x.1)
  pub left : MutBor V × (MutBor W × Unit {0})
  pub called : Called g f (h, (first, (second, tt))) (tt, left) f'
  pub leaves : (left.0.now ≡ y.0) × (left.1.0.now ≡ y.1)

-- handles with their values before and after one call for each, in order, which took f to last
pub record AreChanged {F H V : Type 0} (call : F → H → V → V → F → Type 0)
    (f : F) (old new : List (H × V)) (last : F) : Type 0 where
  pub changes : List (H × V × V)
  pub before : map (λ c. (c.0, c.1)) changes ≡ old
  pub after : map (λ c. (c.0, c.2)) changes ≡ new
  pub called : FoldsTo (λ p c q. call p c.0 c.1 c.2 q) f changes last

-- What a writer's guard, and its view, end as when their value is lent.
use denote.Ref.{at_last}
use Rattle.std.specs.Borrow.{Lends, Fml, RattleType, MutBor}
use Rattle.generational_core.specs.declared.references.GenerationalRefMut.{GenerationalRefMut}
use Rattle.generational_core.specs.declared.references.Mut.{Mut}
use Rattle.generational_core.specs.contracts.references.GenerationalRefMut.{the_row}

-- once the borrow r ends, the guard owns the last value written through r
abbrev pub LendsValue : (T : RattleType) → MutBor (GenerationalRefMut T.Denot)
    → MutBor T.Denot → Fml
LendsValue T s r = Lends (the_row T) T s r (λ v. record s.now { value = v })

-- a view whose guard has the last value written through it
abbrev pub writes_through : {T : Type 0} → Mut T → T → Mut T
writes_through m v = record m { guard = at_last m.guard (record m.guard.now { value = v }) }

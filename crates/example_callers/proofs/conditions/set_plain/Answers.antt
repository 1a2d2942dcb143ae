use Rattle.example_callers.proofs.{leaves, reach_apart, seen_reached, sets, stays_plain, sym}
use Rattle.example_callers.proofs.conditions.set_plain.Goals as goal

pub returns-then-can_write-clause-plain : goal.returns-then-can_write-clause-plain
returns-then-can_write-clause-plain g c = stays_plain _ _ c.set.ensures.1 tt c.requires

pub returns-then-can_write-clause-others : goal.returns-then-can_write-clause-others
returns-then-can_write-clause-others g c b other =
    let to = seen_reached _ _ _ (sets _ _ _ c.set.ensures.1).0 in
    leaves _ _ _ _ (g.met.S.AnyStorage.sound _) c.set.ensures.1 b
    (λ same. other (reach_apart _ c.requires _ b to.0 to.1 (sym same))) tt

use Rattle.example_callers.proofs.{made_last, made_next, make_lacks, None, refl, rules, same_table}
use Rattle.example_callers.proofs.table.Table.insert.Goals as goal

pub invariant_of-self-2 : goal.invariant_of-self-2
invariant_of-self-2 g c = rw (c.push_reserved.ensures.items, c.reserve.ensures.items)
    (made_last (g.met.S.AnyStorage.sound _) _ c.self.invariant None _ _ c.in_ok-made.made
    c.in_ok-made.ensures.step).0

pub returns-in_err-made-clause-cause : goal.returns-in_err-made-clause-cause
returns-in_err-made-clause-cause g c =
    let lacks = make_lacks None _ _ _ refl c.in_err-made.ensures.step in search rules

pub returns-clause-ok : goal.returns-clause-ok
returns-clause-ok g c =
    rw (c.push_reserved.ensures.items, c.reserve.ensures.items, ← c.self.view_is)
    (same_table _ _ (made_last (g.met.S.AnyStorage.sound _) _ c.self.invariant None _ _
    c.in_ok-made.made c.in_ok-made.ensures.step).1 (made_next _ _ _ c.in_ok-made.ensures.step))

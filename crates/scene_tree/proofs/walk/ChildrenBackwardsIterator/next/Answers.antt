use Rattle.scene_tree.proofs.{ap, arith, length, rules, turned_read, turned_within}
use Rattle.scene_tree.proofs.walk.ChildrenBackwardsIterator.next.Goals as goal

pub at-link-requires : goal.at-link-requires
at-link-requires g c = turned_within _ _ _ c.self.invariant c.in_ok-slot.was

pub invariant_of-self : goal.invariant_of-self
invariant_of-self g c =
    (turned_read _ _ _ c.at-link.result c.self.invariant c.in_ok-slot.was c.at-link.ensures.link).1

pub returns-clause-steps : goal.returns-clause-steps
returns-clause-steps g c = grind (arith, turned_read)

pub returns-clause-goes : goal.returns-clause-goes
returns-clause-goes g c = let less = ap length (returns-clause-steps g c) in search (rules, arith)

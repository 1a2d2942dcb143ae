use Rattle.scene_tree.proofs.{ap, arith, length, next_within, rules, way_next}
use Rattle.scene_tree.proofs.walk.AncestorsIterator.next.Goals as goal

pub invariant_of-self : goal.invariant_of-self
invariant_of-self g c = grind (arith, next_within)

pub returns-clause-steps : goal.returns-clause-steps
returns-clause-steps g c = grind (arith, way_next)

pub returns-clause-goes : goal.returns-clause-goes
returns-clause-goes g c = let less = ap length (returns-clause-steps g c) in search (rules, arith)

use Rattle.generational_box.proofs.{arith, back_answer, inl, kept, nat_tests, no_names, ReleaseWriter}
use Rattle.generational_box.proofs.unsync.StoreStorage.release_write.Goals as goal

pub returns-in-Some : goal.returns-in-Some
returns-in-Some g c = inl (no_names, grind arith, grind (arith, nat_tests))

pub returns-in-None : goal.returns-in-None
returns-in-None g c = inl (no_names, grind arith, grind (arith, nat_tests))

pub invariant_of-self-inside : goal.invariant_of-self-inside
invariant_of-self-inside g c =
    kept c.args.self.now (ReleaseWriter c.args.guard.guard c.args.guard.value)
    (back_answer c.release_write.result) (inl (no_names, grind arith, grind (arith, nat_tests)))

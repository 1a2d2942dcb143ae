use Rattle.generational_box.proofs.{arith, Flag, inl, kept, nat_tests, no_names, released, ReleaseReader}
use Rattle.generational_box.proofs.{state_is}
use Rattle.generational_box.proofs.unsync.StoreStorage.release_read.Goals as goal

pub returns-in-Some : goal.returns-in-Some
returns-in-Some g c =
    rw (c.into_reader-ticket.ensures, c.release_read.ensures.after)
    (released _ (state_is c.self.view_is) _ _ c.in-Some.ensures _ c.release_read.ensures.known)

pub returns-in-None : goal.returns-in-None
returns-in-None g c = inl (no_names, tt, grind (arith, nat_tests))

pub invariant_of-self-inside : goal.invariant_of-self-inside
invariant_of-self-inside g c =
    kept c.args.self.now (ReleaseReader c.args.guard) (Flag c.release_read.result)
    (rw (c.into_reader-ticket.ensures, c.release_read.ensures.after)
    (released _ (state_is c.self.view_is) _ _ c.in-Some.ensures _ c.release_read.ensures.known))

use Rattle.generational_box.proofs.{arith, guard_at, inl, inr, kept, may_lack, name_of_cell, nat_tests}
use Rattle.generational_box.proofs.{no_names, reaches, Read, readers_below, Reads, refusal_to_read}
use Rattle.generational_box.proofs.unsync.Store.begin_read.Goals as goal

pub begin_read-requires-clause-ascends : goal.begin_read-requires-clause-ascends
begin_read-requires-clause-ascends g c = readers_below _ c.self.inside.sound _

pub returns-in-Ok : goal.returns-in-Ok
unfolding refusal_to_read
returns-in-Ok g c =
    let there = reaches _ c.args.self.now.sound c.args.pointer _ c.requires.to in
    inl (no_names, tt, grind (arith, nat_tests))

pub returns-in-Err : goal.returns-in-Err
unfolding refusal_to_read may_lack
returns-in-Err g c =
    let there = reaches _ c.args.self.now.sound c.args.pointer _ c.requires.to in
    inr (grind (arith, nat_tests))

pub invariant_of-self-inside : goal.invariant_of-self-inside
unfolding refusal_to_read
invariant_of-self-inside g c =
    let there = reaches _ c.args.self.now.sound c.args.pointer _ c.requires.to in
    kept c.args.self.now (Read c.args.pointer c.args.location)
    (Reads (guard_at c.self.inside.number (name_of_cell c.args.name) c.self.inside.next))
    (inl (no_names, tt, grind (arith, nat_tests)))

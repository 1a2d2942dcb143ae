use Rattle.generational_box.proofs.{arith, guard_at, inl, kept, name_of_cell, nat_tests, no_names, reaches}
use Rattle.generational_box.proofs.{refusal_to_write, Write, Writes}
use Rattle.generational_box.proofs.unsync.Store.begin_write.Goals as goal

pub returns-then-ticket : goal.returns-then-ticket
unfolding refusal_to_write
returns-then-ticket g c =
    let there = reaches _ c.args.self.now.sound c.args.pointer _ c.requires.to in
    inl (no_names, tt, grind (arith, nat_tests))

pub returns : goal.returns
unfolding refusal_to_write
returns g c = inl (no_names, tt, grind (arith, nat_tests))

pub invariant_of-self-inside : goal.invariant_of-self-inside
unfolding refusal_to_write
invariant_of-self-inside g c =
    kept c.args.self.now (Write c.args.pointer c.args.location)
    (Writes (guard_at c.self.inside.number (name_of_cell c.args.name) c.self.inside.next)
    c.begin_write-value.result) (inl (no_names, tt, grind (arith, nat_tests)))

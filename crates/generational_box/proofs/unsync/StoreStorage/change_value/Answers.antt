use Rattle.generational_box.proofs.{arith, inl, kept, nat_tests, no_names, Old, reach}
use Rattle.generational_box.proofs.{refusal_to_write, SetValue}
use Rattle.generational_box.proofs.unsync.StoreStorage.change_value.Goals as goal

pub returns : goal.returns
unfolding reach refusal_to_write
returns g c =
    let done = c.change.ensures in
    record { old = _; new = _; called = done.2; set = inl (no_names, tt, grind (arith, nat_tests)) }

pub invariant_of-self-inside : goal.invariant_of-self-inside
unfolding reach refusal_to_write
invariant_of-self-inside g c =
    let done = c.change.ensures in
    kept c.args.self.now (SetValue c.args.pointer done.1) (Old done.0)
    (inl (no_names, tt, grind (arith, nat_tests)))

use Rattle.generational_box.proofs.{arith, inl, kept, nat_tests, no_names, Old, reach}
use Rattle.generational_box.proofs.{refusal_to_write, SetValue}
use Rattle.generational_box.proofs.unsync.StoreStorage.replace_value.Goals as goal

pub returns : goal.returns
unfolding reach refusal_to_write
returns g c = inl (no_names, tt, grind (arith, nat_tests))

pub invariant_of-self-inside : goal.invariant_of-self-inside
unfolding reach refusal_to_write
invariant_of-self-inside g c =
    kept c.args.self.now (SetValue c.args.pointer c.args.value) (Old c.replace.result)
    (inl (no_names, tt, grind (arith, nat_tests)))

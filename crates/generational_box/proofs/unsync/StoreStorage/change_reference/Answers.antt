use Rattle.generational_box.proofs.{arith, inl, kept, nat_tests, no_names, pointed, reach}
use Rattle.generational_box.proofs.{refusal_to_read, sound_linked, state_is}
use Rattle.generational_box.proofs.unsync.StoreStorage.change_reference.Goals as goal

pub returns-then-eq : goal.returns-then-eq
returns-then-eq g c = inl (no_names, tt, grind (arith, nat_tests))

pub returns-in_default : goal.returns-in_default
unfolding reach refusal_to_read
returns-in_default g c = rw c.dropped_mut.ensures (inl (no_names, tt, grind (arith, nat_tests)))

pub unlent-requires : goal.unlent-requires
unlent-requires g c = sound_linked _ c.self.inside.sound

pub returns-in-Err : goal.returns-in-Err
unfolding reach refusal_to_read
returns-in-Err g c = inl (no_names, tt, grind (arith, nat_tests))

pub returns-in_default-own : goal.returns-in_default-own
unfolding reach refusal_to_read
returns-in_default-own g c =
    rw c.dropped_mut-in_default-own.ensures (inl (no_names, tt, grind (arith, nat_tests)))

pub point-requires-clause-linked : goal.point-requires-clause-linked
point-requires-clause-linked g c = sound_linked _ c.self.inside.sound

pub returns : goal.returns
returns g c =
    pointed c.self.inside.slots.state (state_is c.self.view_is) c.args.pointer c.args.other c.if-eq.ensures
    c.in-Some.ensures c.in-Ok.ensures.ok.0 c.in-Ok.ensures.ok.1 c.in-Some-own.ensures _ _
    (c.point.ensures c.args.other)

pub invariant_of-self-inside : goal.invariant_of-self-inside
invariant_of-self-inside g c =
    kept c.args.self.now _ _ (pointed c.self.inside.slots.state (state_is c.self.view_is)
    c.args.pointer
    c.args.other c.if-eq.ensures c.in-Some.ensures c.in-Ok.ensures.ok.0 c.in-Ok.ensures.ok.1
    c.in-Some-own.ensures _ _ (c.point.ensures c.args.other))

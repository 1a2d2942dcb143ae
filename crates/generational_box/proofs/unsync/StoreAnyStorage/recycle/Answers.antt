use Rattle.generational_box.proofs.{arith, close_nothing, end_own, hindrance_to, inl, kept, nat_tests}
use Rattle.generational_box.proofs.{no_names, sound_linked, state_is}
use Rattle.generational_box.proofs.unsync.StoreAnyStorage.recycle.Goals as goal

pub end-requires : goal.end-requires
end-requires g c = sound_linked _ c.self.inside.sound

pub returns-in-Some : goal.returns-in-Some
returns-in-Some g c = end_own _ (state_is c.self.view_is) c.args.pointer c.in-Some.ensures _ _ c.end.ensures

pub returns-in-None : goal.returns-in-None
unfolding hindrance_to
returns-in-None g c =
    let same = close_nothing c.self.inside.slots.state.cells (sound_linked _ c.self.inside.sound) in
    inl (no_names, tt, grind (arith, nat_tests))

pub invariant_of-self-inside : goal.invariant_of-self-inside
invariant_of-self-inside g c = kept c.args.self.now _ _
    (end_own _ (state_is c.self.view_is) c.args.pointer c.in-Some.ensures _ _ c.end.ensures)

use Rattle.generational_box.proofs.{sound_linked, state_is, taken_ends, taken_kept}
use Rattle.generational_box.proofs.unsync.StoreStorage.take_value.Goals as goal

pub take_value-requires : goal.take_value-requires
take_value-requires g c = sound_linked _ c.self.inside.sound

pub returns-in-Some-clause-ended : goal.returns-in-Some-clause-ended
returns-in-Some-clause-ended g c =
    taken_ends _ (state_is c.self.view_is) c.args.pointer c.in-Some.ensures _ _ c.take_value.ensures.free
    c.take_value.ensures.ended

pub invariant_of-self-inside : goal.invariant_of-self-inside
invariant_of-self-inside g c =
    taken_kept _ (state_is c.self.view_is) c.args.pointer c.in-Some.ensures c.args.self.now.sound
    c.args.self.now.bounded _ _ c.take_value.ensures.free c.take_value.ensures.ended c.take_value.ensures.none

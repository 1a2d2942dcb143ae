use Rattle.example_callers.proofs.soundness.at_rest.Goals as goal

pub returns-clause-sound : goal.returns-clause-sound
returns-clause-sound g c = g.met.S.AnyStorage.sound _

use Rattle.shared_state.proofs.{plain_of, replay_kept, told_number, ◌∙◌}
use Rattle.shared_state.proofs.laws.histories_lead_to_sound_states.Goals as goal

pub returns : goal.returns
returns c =
    let good = replay_kept (λ P Q a answer met s. c.steps_are_sound.ensures.step P Q a answer s met)
    c.steps_keep_the_store.ensures.number c.steps_keep_the_store.ensures.start in record {
      start = λ number. c.steps_are_sound.ensures.fresh number 1 0;
      sound = λ P steps Q begins e. (good P steps Q begins e).0;
      number = λ P steps Q begins e. (good P steps Q begins e).1;
      store = λ base steps Q begins e. (good (plain_of base) steps Q begins e).1 ∙ told_number base;
      generation = λ P steps Q begins e. (good P steps Q begins e).2;
    }

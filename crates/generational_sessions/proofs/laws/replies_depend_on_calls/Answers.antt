use Rattle.generational_sessions.proofs.{◌∙◌, sym, fresh_sound, fresh_matches, run_answers}
use Rattle.generational_sessions.proofs.{owner_matched}
use Rattle.generational_sessions.proofs.laws.replies_depend_on_calls.Goals as goal

pub returns : goal.returns
returns g c = record {
  fresh = λ number start next calls replies r. run_answers calls replies _ r _
      (fresh_matches number start next) (fresh_sound number start next);
  run = run_answers;
  names = λ s a m. m.names.count ∙ sym m.numbers.count;
  owners = λ s a key m. owner_matched m key;
}

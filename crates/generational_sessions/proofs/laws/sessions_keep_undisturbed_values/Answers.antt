use Rattle.generational_sessions.proofs.{run_value, session_value}
use Rattle.generational_sessions.proofs.laws.sessions_keep_undisturbed_values.Goals as goal

pub returns : goal.returns
returns g c = record {
  step = λ s r call reply b m kept. session_value s r call reply b m kept.sound;
  run = λ calls replies s r b m kept run u. (run_value calls replies s r b m kept.sound run u).1;
}

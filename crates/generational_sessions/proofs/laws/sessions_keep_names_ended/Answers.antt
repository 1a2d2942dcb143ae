use Rattle.generational_sessions.proofs.{session_ended, run_ended}
use Rattle.generational_sessions.proofs.laws.sessions_keep_names_ended.Goals as goal

pub returns : goal.returns
returns g c = record {
  step = λ s r c x n step. session_ended s r c x step n;
  run = λ calls replies s r n run. run_ended calls replies s r run n;
}

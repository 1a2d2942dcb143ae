use Rattle.generational_laws.proofs.{ended_read, ended_write, meets_ended}
use Rattle.generational_laws.proofs.laws.ended_names_stay_ended.Goals as goal

pub returns : goal.returns
returns g c = search (meets_ended, ended_read, ended_write)

use Rattle.example_callers.proofs.{release_beside, rules, stays_listed}
use Rattle.example_callers.proofs.owned.release_beside.Goals as goal

pub returns : goal.returns
returns g c = search (rules, stays_listed, release_beside, g.met.S.AnyStorage.sound)

use Rattle.example_callers.proofs.{points_seen, refused_end, rules}
use Rattle.example_callers.proofs.leaving.follow.Goals as goal

pub returns : goal.returns
returns g c = search (rules, points_seen, refused_end, g.met.S.AnyStorage.sound)

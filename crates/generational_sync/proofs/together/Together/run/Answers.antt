use Rattle.std.specs.Prelude.{refl}
use Rattle.generational_sync.proofs.together.Together.run.Goals as goal

pub returns : goal.returns
returns g c =
    (_, _, record { shown = _; shows = refl; left = _; met = c.f-answer.ensures; leaves = refl })

use Rattle.std.proofs.Common.{refl}
use Rattle.example_libraries.proofs.resources.done.Goals as goal

pub returns : goal.returns
returns g c = c.sets_show_in_memos.ensures.one _ _ c.args.job c.args.twice _ _ _ _
    c.in_ok-set.ensures.set c.requires.memo c.requires.apart refl c.in_ok-loaded.ensures.answer

use Rattle.std.proofs.Common.{refl}
use Rattle.example_libraries.proofs.memos.odd_after_set.Goals as goal

pub returns : goal.returns
returns g c = c.sets_show_in_memos.ensures.one _ _ c.args.source c.args.odd _ _ _ _
    c.in_ok-set.ensures.set c.requires.memo c.requires.apart refl c.in_ok-shown.ensures.answer

use Rattle.std.proofs.Common.{refl}
use Rattle.example_libraries.proofs.memos.sum_after_sets.Goals as goal

pub returns : goal.returns
returns g c = c.sets_show_in_memos.ensures.two _ _ _ c.args.one c.args.other c.args.sum _ c.args.x c.args.y _ _
    c.in_ok-set.ensures.set c.in_ok-set-2.ensures.set c.requires.memo c.requires.sources c.requires.first
    c.requires.second (refl, (refl, refl)) c.in_ok-total.ensures.answer

use Rattle.std.proofs.Common.{refl}
use Rattle.todo_list.proofs.filter.shown_after_set.Goals as goal

pub returns : goal.returns
returns g c = c.sets_show_in_memos.ensures.one _ _ c.args.wanted.all c.args.memo _ _ _ _
    c.in_ok-set.ensures.set c.requires.memo c.requires.apart refl c.in_ok-shown.ensures.answer

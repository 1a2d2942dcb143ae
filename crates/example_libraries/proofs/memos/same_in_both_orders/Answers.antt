use Rattle.example_libraries.proofs.memos.same_in_both_orders.Goals as goal

pub returns : goal.returns
returns g c = c.sets_show_in_memos.ensures.orders _ _ _ _ _ _ c.args.one c.args.other _ _ c.requires.alike c.requires.apart
    c.in_ok-set.ensures.set c.in_ok-set-2.ensures.set c.in_ok-set-3.ensures.set c.in_ok-set-4.ensures.set
    c.args.memo _ _ c.in_ok-a.ensures.answer c.in_ok-b.ensures.answer

use Rattle.example_libraries.proofs.{All-get_or, IsOther, rules}
use Rattle.example_libraries.proofs.proving.set_all.Goals as goal

pub loop-item-preserved : goal.loop-item-preserved
loop-item-preserved g c other all =
    rw (c.set.ensures.others other (All-get_or (λ item. IsOther item other) c.args.items.now
    c.loop-item.item-index _ (search rules) all))
    (c.loop-item.invariant other all)

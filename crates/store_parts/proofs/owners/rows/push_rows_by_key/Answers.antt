use Rattle.store_parts.proofs.{ap, in_order, rows_at, ◌++◌, ◌∙◌}
use Rattle.store_parts.proofs.owners.rows.push_rows_by_key.Goals as goal

pub loop-position-init : goal.loop-position-init
loop-position-init c =
    let records = c.args.records.now in
    let items = c.iter-position-items.ensures in
    ap (λ rows. c.args.rows.now.items ++ rows)
    (ap (rows_at records c.args.number) (c.into_iter-position-iterator.ensures.into_iter_gives ∙ items.rest)
    ∙ in_order c.requires c.args.number c.in_ok-by_key.by_key.entries items.ordered
    c.in_ok-by_key.ensures items.found)

use Rattle.store_parts.proofs.{arith, get_or_read_under, []}
use Rattle.store_parts.proofs.table.BorrowTable.push.Goals as goal

pub push-requires : goal.push-requires
push-requires c =
    let lists = c.self.inside.lists in
    let ascends = rw (← c.self.view_is) at c.requires.ascends in
    let within = rw (← c.self.view_is) at c.requires.within in
    rw (get_or_read_under lists.items c.args.index lists.len c.index_mut.result.now []
    c.index_mut.ensures.value (omega (arith, within, lists.ok.0)) lists.ok.0)
    ascends

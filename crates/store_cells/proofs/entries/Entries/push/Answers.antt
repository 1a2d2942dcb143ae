-- Another slot, with a cell without borrows.
use Rattle.store_cells.proofs.{arith, kept, pushed}
use Rattle.store_cells.proofs.entries.Entries.push.Goals as goal

pub invariant_of-self : goal.invariant_of-self
invariant_of-self g c =
    let s = kept c.self.view_is c.self.invariant in let roomy = s.holds.3 in
    let p = pushed s _ c.args.created_at c.requires.unborrowed c.requires.room in
    rw (c.push_reserved.ensures.items, c.push_reserved-2.ensures.items)
    (p.0, p.1, p.2, (let filled = p.3 in grind arith))

pub returns-clause-pushed : goal.returns-clause-pushed
returns-clause-pushed g c =
    rw (c.push_reserved.ensures.items, c.push_reserved-2.ensures.items)
    (pushed (kept c.self.view_is c.self.invariant) _ c.args.created_at c.requires.unborrowed c.requires.room).4

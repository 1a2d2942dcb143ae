-- A cell without borrows in a slot that has none, under the next generation.
use Rattle.store_cells.proofs.{found, kept, refilled, seen}
use Rattle.store_cells.proofs.entries.Entries.refill.Goals as goal

pub refill-generation-requires : goal.refill-generation-requires
refill-generation-requires g c =
    rw (seen (found (kept c.self.view_is c.self.invariant) c.requires.within c.index_mut.ensures.value).1)
    at c.requires.below

pub invariant_of-self : goal.invariant_of-self
invariant_of-self g c =
    let a = (found (kept c.self.view_is c.self.invariant) c.requires.within c.index_mut.ensures.value).1 in
    rw c.refill-generation.ensures.filled (refilled a c.requires.empty _ _ c.args.created_at c.requires.unborrowed).holds

pub returns-clause-generation : goal.returns-clause-generation
returns-clause-generation g c =
    rw (seen (found (kept c.self.view_is c.self.invariant) c.requires.within c.index_mut.ensures.value).1)
    c.refill-generation.ensures.generation

pub returns-clause-filled : goal.returns-clause-filled
returns-clause-filled g c =
    let a = (found (kept c.self.view_is c.self.invariant) c.requires.within c.index_mut.ensures.value).1 in
    rw c.refill-generation.ensures.filled (refilled a c.requires.empty _ _ c.args.created_at c.requires.unborrowed).view

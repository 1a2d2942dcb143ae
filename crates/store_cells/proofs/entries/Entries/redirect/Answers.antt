-- A reference that names another cell.
use Rattle.store_cells.proofs.{found, kept, redirected, seen}
use Rattle.store_cells.proofs.entries.Entries.redirect.Goals as goal

pub invariant_of-self : goal.invariant_of-self
invariant_of-self g c =
    let a = (found (kept c.self.view_is c.self.invariant) c.requires.within c.index_mut.ensures.value).1 in
    (redirected a c.requires.refers c.replace.ensures.after).holds

pub returns-clause-slots : goal.returns-clause-slots
returns-clause-slots g c =
    let a = (found (kept c.self.view_is c.self.invariant) c.requires.within c.index_mut.ensures.value).1 in
    let target = (found (kept c.self.view_is c.self.invariant) c.requires.target c.index.ensures).1 in
    rw (seen target) (redirected a c.requires.refers c.replace.ensures.after).view

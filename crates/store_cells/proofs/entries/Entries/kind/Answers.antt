-- Whose the value of a name is.
use Rattle.store_cells.proofs.{arith, found_in, kept, kind_seen, past, refl, ◌∙◌}
use Rattle.store_cells.proofs.entries.Entries.kind.Goals as goal

pub returns-in-Some : goal.returns-in-Some
returns-in-Some g c =
    let found = rw c.deref.ensures.value at c.in-Some.ensures.lookup in
    let a = (found_in (kept c.self.view_is c.self.invariant) found.3.0 found.1).1 in
    c.kind.ensures ∙ kind_seen a c.args.name.generation

pub returns-in-None : goal.returns-in-None
returns-in-None g c =
    let none = rw c.deref.ensures.value at c.in-None.ensures.lookup in
    rw (past (kept c.self.view_is c.self.invariant) c.args.name.slot (omega (arith, none.3))) refl

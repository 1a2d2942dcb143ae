-- Whether the value of a name is its own and has no borrow.
use Rattle.store_cells.proofs.{arith, found_in, kept, past, refl, unborrowed_seen}
use Rattle.store_cells.proofs.entries.Entries.has_unborrowed_value.Goals as goal

pub returns-then-not-has_unborrowed_value : goal.returns-then-not-has_unborrowed_value
returns-then-not-has_unborrowed_value g c =
    let found = rw c.deref.ensures.value at c.in-Some.ensures.lookup in
    let a = (found_in (kept c.self.view_is c.self.invariant) found.3.0 found.1).1 in
    rw (unborrowed_seen a c.args.name.generation, ← c.has_unborrowed_value.ensures, c.if-not-has_unborrowed_value.true) refl

pub returns-else-not-has_unborrowed_value : goal.returns-else-not-has_unborrowed_value
returns-else-not-has_unborrowed_value g c =
    let found = rw c.deref.ensures.value at c.in-Some.ensures.lookup in
    let a = (found_in (kept c.self.view_is c.self.invariant) found.3.0 found.1).1 in
    let seen = unborrowed_seen a c.args.name.generation in
    let own = c.has_unborrowed_value.ensures in
    rw (seen, ← own, c.if-not-has_unborrowed_value.false, c.is_at.ensures) refl

pub returns-in-None : goal.returns-in-None
returns-in-None g c =
    let none = rw c.deref.ensures.value at c.in-None.ensures.lookup in
    rw (past (kept c.self.view_is c.self.invariant) c.args.name.slot (omega (arith, none.3))) refl

-- Whether there is no borrow at a cell.
use Rattle.store_cells.proofs.{found, found_there, kept, no_borrow, refl, seen, write_seen}
use Rattle.store_cells.proofs.entries.Entries.is_unborrowed.Goals as goal

pub returns-then-is_at : goal.returns-then-is_at
returns-then-is_at g c =
    let a = (found_there (kept c.self.view_is c.self.invariant) c.requires).2 in
    rw (seen a, write_seen a.at _, ← c.is_at.ensures, c.if-is_at.true) refl

pub returns-in-Read : goal.returns-in-Read
returns-in-Read g c =
    let a = (found (kept c.self.view_is c.self.invariant) c.requires c.index.ensures).1 in
    rw (seen a, write_seen a.at _, ← c.is_at.ensures, c.if-is_at.false, c.in-Read.is) refl

pub returns-in-SharedRead : goal.returns-in-SharedRead
returns-in-SharedRead g c =
    let a = (found (kept c.self.view_is c.self.invariant) c.requires c.index.ensures).1 in
    rw (seen a, write_seen a.at _, ← c.is_at.ensures, c.if-is_at.false, c.in-SharedRead.is) refl

pub returns-in-Lent : goal.returns-in-Lent
returns-in-Lent g c =
    let a = (found (kept c.self.view_is c.self.invariant) c.requires c.index.ensures).1 in
    rw (seen a, write_seen a.at _, ← c.is_at.ensures, c.if-is_at.false, c.in-Lent.is) refl

pub returns-in_default : goal.returns-in_default
returns-in_default g c =
    let a = (found (kept c.self.view_is c.self.invariant) c.requires c.index.ensures).1 in
    let free = no_borrow c.in_default.not-Lent c.in_default.not-Read c.in_default.not-SharedRead in
    rw (seen a, write_seen a.at _, ← c.is_at.ensures, c.if-is_at.false, free) refl

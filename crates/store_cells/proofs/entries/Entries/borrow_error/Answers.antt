-- The writer that is in the way of a read.
use Rattle.store_cells.proofs.{ap, data_in, found, kept, lent_seen, lent_used, no_refusal, refl, seen}
use Rattle.store_cells.proofs.entries.Entries.borrow_error.Goals as goal

pub writer_at-writer-requires : goal.writer_at-writer-requires
writer_at-writer-requires g c =
    let a = (found (kept c.self.view_is c.self.invariant) c.requires c.index.ensures).1 in
    λ some. (lent_used a.at (ap data_in c.in-Lent.is) some).within

pub returns-in-Lent : goal.returns-in-Lent
returns-in-Lent g c =
    let a = (found (kept c.self.view_is c.self.invariant) c.requires c.index.ensures).1 in
    let w = c.writer_at-writer.ensures in
    rw (seen a, lent_seen a.at (ap data_in c.in-Lent.is) w.none w.some _, c.new.ensures) refl

pub returns-in_default : goal.returns-in_default
returns-in_default g c =
    rw (seen (found (kept c.self.view_is c.self.invariant) c.requires c.index.ensures).1) (no_refusal c.in_default.not-Lent _ _)

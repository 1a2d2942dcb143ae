-- The rows of a value's borrows.
use Rattle.store_cells.proofs.{ap, append-nil, data_in, found, index_form, kept, lent_seen, lent_used, no_borrow}
use Rattle.store_cells.proofs.{noted_data, read_borrows, rowless, seen, sym, used_at, ◌∙◌}
use Rattle.store_cells.proofs.entries.Entries.push_borrows.Goals as goal

pub writer_at-requires : goal.writer_at-requires
writer_at-requires g c =
    let a = (found (kept c.self.view_is c.self.invariant) c.requires c.index.ensures).1 in
    λ some. (lent_used a.at (ap data_in c.in-Lent.is) some).within

pub borrows_at-requires : goal.borrows_at-requires
borrows_at-requires g c =
    let a = (found (kept c.self.view_is c.self.invariant) c.requires c.index.ensures).1 in
    (used_at a.at (index_form c.in-Read.is).2).within

pub returns-in-Lent : goal.returns-in-Lent
returns-in-Lent g c =
    let a = (found (kept c.self.view_is c.self.invariant) c.requires c.index.ensures).1 in
    let w = c.writer_at.ensures in
    rw (seen a, lent_seen a.at (ap data_in c.in-Lent.is) w.none w.some _) c.push_writer.ensures

pub returns-in-Read : goal.returns-in-Read
returns-in-Read g c =
    let a = (found (kept c.self.view_is c.self.invariant) c.requires c.index.ensures).1 in
    let own = (index_form c.in-Read.is).2 in
    rw (seen a, read_borrows a.at own, own, ← c.borrows_at.ensures) c.push_readers.ensures

pub returns-then-is_at : goal.returns-then-is_at
returns-then-is_at g c =
    let a = (found (kept c.self.view_is c.self.invariant) c.requires c.index.ensures).1 in
    let on = sym c.is_at.ensures ∙ c.if-is_at.true in
    let free = no_borrow c.in_default.not-Lent c.in_default.not-Read c.in_default.not-SharedRead in
    rw (seen a, (noted_data a.at on free).2, on, ← c.reader_row.ensures) c.push_more.ensures.ok

pub returns-else-is_at : goal.returns-else-is_at
returns-else-is_at g c =
    let a = (found (kept c.self.view_is c.self.invariant) c.requires c.index.ensures).1 in
    let free = no_borrow c.in_default.not-Lent c.in_default.not-Read c.in_default.not-SharedRead in
    rw (seen a, rowless a (sym c.is_at.ensures ∙ c.if-is_at.false) free c.args.id) (sym (append-nil c.args.rows.now.items))

-- The borrows that are in the way of a write or an end.
use Rattle.store_cells.proofs.{ap, data_in, found, hindered, index_form, kept, lent_seen, lent_used, no_borrow}
use Rattle.store_cells.proofs.{none_some, noted_data, read_borrows, refl, seen, sym, unhindered, used_at, [], ◌∙◌}
use Rattle.store_cells.proofs.{◌∷◌}
use Rattle.store_cells.proofs.entries.Entries.borrow_mut_error.Goals as goal

pub writer_at-requires : goal.writer_at-requires
writer_at-requires g c =
    let a = (found (kept c.self.view_is c.self.invariant) c.requires c.index.ensures).1 in
    λ some. (lent_used a.at (ap data_in c.in-Lent.is) some).within

pub readers_error-requires : goal.readers_error-requires
readers_error-requires g c =
    let a = (found (kept c.self.view_is c.self.invariant) c.requires c.index.ensures).1 in
    (used_at a.at (index_form c.in-Read.is).2).within

pub returns-in-Lent : goal.returns-in-Lent
returns-in-Lent g c =
    let a = (found (kept c.self.view_is c.self.invariant) c.requires c.index.ensures).1 in
    let w = c.writer_at.ensures in
    rw (seen a, c.writer_error.ensures, lent_seen a.at (ap data_in c.in-Lent.is) w.none w.some _) refl

pub returns-in-Read : goal.returns-in-Read
returns-in-Read g c =
    let a = (found (kept c.self.view_is c.self.invariant) c.requires c.index.ensures).1 in
    let own = (index_form c.in-Read.is).2 in
    rw (seen a) (hindered a (read_borrows a.at own) (used_at a.at own).some
    (rw own refl) (rw own refl) _ c.readers_error.ensures)

pub returns-then-is_at : goal.returns-then-is_at
returns-then-is_at g c =
    let a = (found (kept c.self.view_is c.self.invariant) c.requires c.index.ensures).1 in
    let on = sym c.is_at.ensures ∙ c.if-is_at.true in
    let free = no_borrow c.in_default.not-Lent c.in_default.not-Read c.in_default.not-SharedRead in
    let own = (noted_data a.at on free).2 in
    rw (seen a) (hindered a {bs = c.self.inside.last.borrow ∷ []} (rw (own, on) refl) (none_some _ [])
    (rw own refl) (rw own refl) _ c.reader_error.ensures)

pub returns-else-is_at : goal.returns-else-is_at
returns-else-is_at g c =
    let a = (found (kept c.self.view_is c.self.invariant) c.requires c.index.ensures).1 in
    let free = no_borrow c.in_default.not-Lent c.in_default.not-Read c.in_default.not-SharedRead in
    rw (seen a) (unhindered a (sym c.is_at.ensures ∙ c.if-is_at.false) free)

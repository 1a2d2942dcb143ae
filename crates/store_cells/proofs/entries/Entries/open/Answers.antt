-- The value, if it has this reader.
use Rattle.store_cells.proofs.{data_form, eq-eqb, found, kept, no_read, noted_else, noted_opens, read_borrows}
use Rattle.store_cells.proofs.{read_form, reads_at, refl, seen, sym, used_at, ◌∙◌}
use Rattle.store_cells.proofs.entries.Entries.open.Goals as goal

pub returns-in-Data : goal.returns-in-Data
returns-in-Data g c =
    let a = (found (kept c.self.view_is c.self.invariant) c.requires c.index.ensures).1 in
    let is = reads_at c.self.inside.last c.args.slot c.args.ticket (sym c.is_reader_at.ensures ∙ c.if-is_reader_at.true) in
    rw (seen a, (data_form c.in-Data.is).1, is.0, eq-eqb _ c.args.ticket is.1) refl

pub returns-in_default : goal.returns-in_default
returns-in_default g c =
    let a = (found (kept c.self.view_is c.self.invariant) c.requires c.index.ensures).1 in
    let is = reads_at c.self.inside.last c.args.slot c.args.ticket (sym c.is_reader_at.ensures ∙ c.if-is_reader_at.true) in
    rw (seen a, ← noted_opens a.at is.0 is.1 _) (rw (seen a) at c.peek_slow.ensures)

pub contains-requires : goal.contains-requires
contains-requires g c =
    let a = (found (kept c.self.view_is c.self.invariant) c.requires c.index.ensures).1 in
    (used_at a.at (read_form c.in-Read.is).1).within

pub returns-then-contains : goal.returns-then-contains
returns-then-contains g c =
    let a = (found (kept c.self.view_is c.self.invariant) c.requires c.index.ensures).1 in
    let own = (read_form c.in-Read.is).1 in
    rw (seen a, read_borrows a.at own, own, ← c.contains.ensures, c.if-contains.true) refl

pub returns-else-contains : goal.returns-else-contains
returns-else-contains g c =
    let a = (found (kept c.self.view_is c.self.invariant) c.requires c.index.ensures).1 in
    let own = (read_form c.in-Read.is).1 in
    rw (seen a, read_borrows a.at own, own, ← c.contains.ensures, c.if-contains.false) refl

pub returns-in_default-content : goal.returns-in_default-content
returns-in_default-content g c =
    let a = (found (kept c.self.view_is c.self.invariant) c.requires c.index.ensures).1 in
    rw (seen a) (sym (noted_else a.at _ (sym c.is_reader_at.ensures ∙ c.if-is_reader_at.false)
    (no_read c.in_default-content.not-Read c.in_default-content.not-SharedRead) _))

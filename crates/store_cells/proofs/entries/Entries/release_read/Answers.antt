-- A reader that is noted ends, and one that is listed.
use Rattle.store_cells.proofs.{ap, EntryList, found, kept, read_ended, sym, ◌∙◌}
use Rattle.store_cells.proofs.entries.Entries.release_read.Goals as goal

pub returns-then-is_unread : goal.returns-then-is_unread
returns-then-is_unread g c =
    let a = (found (kept c.self.view_is c.self.invariant) c.requires c.index.ensures).1 in
    let reads = sym c.is_reader_at.ensures ∙ c.if-is_reader_at.true in
    let done = read_ended a _ reads (sym c.is_unread.ensures ∙ c.if-is_unread.true) in
    record { known = done.0; after = done.1.view; rooms = ap (λ (x : EntryList _). x.rooms) c.self.view_is }

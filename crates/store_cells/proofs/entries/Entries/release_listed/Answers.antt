-- A listed reader ends.
use Rattle.store_cells.proofs.{ap, data_in, EntryDetails, EntryList, found, IsAt, kept, listed, no_read}
use Rattle.store_cells.proofs.{read_borrows, released, seen, set-own, still_read, unread, used_at}
use Rattle.std.proofs.Common.{vec_capacity}
use Rattle.store_cells.specs.declared.entry.CellKind.TheVariants as kind
use Rattle.store_cells.proofs.entries.Entries.release_listed.Goals as goal
use Rattle.store_cells.proofs.entries.Entries.release_listed.Goals.{After-index_mut}

slot_at : (g : _) (c : After-index_mut g) → let l = c.list_noted.new in (d : EntryDetails)
    × IsAt l.last l.borrows l.entries.items c.self.inside.details.items c.args.self.now
    c.self.inside.room
    (vec_capacity l.entries) (vec_capacity c.self.inside.details) c.args.slot c.index_mut.result.now
    d
slot_at g c = let l = c.list_noted.ensures in
    found (listed (kept c.self.view_is c.self.invariant) l.listed l.capacity) c.requires
    c.index_mut.ensures.value

pub release-known-requires : goal.release-known-requires
release-known-requires g c =
    used_at (slot_at g (goal.at.release-known-requires g c).After-index_mut).1.at
    (ap data_in c.in-Read.is)

pub invariant_of-self : goal.invariant_of-self
invariant_of-self g c =
    let a = (slot_at g (goal.at.invariant_of-self g c).After-index_mut).1 in
    (released a c.list_noted.ensures.nobody (ap data_in c.in-Read.is) _ _ _
    c.release-known.ensures.after
    (still_read kind.Value _ _ c.if-index.true)).holds

pub invariant_of-self-in-Read : goal.invariant_of-self-in-Read
invariant_of-self-in-Read g c =
    let a = (slot_at g (goal.at.invariant_of-self-in-Read g c).After-index_mut).1 in
    (released a c.list_noted.ensures.nobody (ap data_in c.in-Read.is) _ _ _
    c.release-known.ensures.after c.unlist.ensures).holds

pub returns-then-index : goal.returns-then-index
returns-then-index g c =
    let a = (slot_at g (goal.at.returns-then-index g c).After-index_mut).1 in
    let is = ap data_in c.in-Read.is in let r = c.release-known.ensures in record {
      known = rw (seen a, read_borrows a.at is, is) r.known;
      after = (released a c.list_noted.ensures.nobody is _ _ _ r.after
          (still_read kind.Value _ _ c.if-index.true)).view;
      rooms = ap (λ (x : EntryList _). x.rooms) c.self.view_is;
    }

pub returns-else-index : goal.returns-else-index
returns-else-index g c =
    let a = (slot_at g (goal.at.returns-else-index g c).After-index_mut).1 in
    let is = ap data_in c.in-Read.is in let r = c.release-known.ensures in record {
      known = rw (seen a, read_borrows a.at is, is) r.known;
      after = (released a c.list_noted.ensures.nobody is _ _ _ r.after c.unlist.ensures).view;
      rooms = ap (λ (x : EntryList _). x.rooms) c.self.view_is;
    }

pub release-known-requires-in-SharedRead : goal.release-known-requires-in-SharedRead
release-known-requires-in-SharedRead g c =
    used_at (slot_at g (goal.at.release-known-requires-in-SharedRead g c).After-index_mut).1.at
    (ap data_in c.in-SharedRead.is)

pub invariant_of-self-then-shared_index : goal.invariant_of-self-then-shared_index
invariant_of-self-then-shared_index g c =
    let a = (slot_at g (goal.at.invariant_of-self-then-shared_index g c).After-index_mut).1 in
    (released a c.list_noted.ensures.nobody (ap data_in c.in-SharedRead.is) _ _ _
    c.release-known-in-SharedRead.ensures.after
    (still_read kind.Shared _ _ c.if-shared_index.true)).holds

pub invariant_of-self-in-SharedRead : goal.invariant_of-self-in-SharedRead
invariant_of-self-in-SharedRead g c =
    let a = (slot_at g (goal.at.invariant_of-self-in-SharedRead g c).After-index_mut).1 in
    (released a c.list_noted.ensures.nobody (ap data_in c.in-SharedRead.is) _ _ _
    c.release-known-in-SharedRead.ensures.after
    c.unlist-in-SharedRead.ensures).holds

pub returns-then-shared_index : goal.returns-then-shared_index
returns-then-shared_index g c =
    let a = (slot_at g (goal.at.returns-then-shared_index g c).After-index_mut).1 in
    let is = ap data_in c.in-SharedRead.is in let r = c.release-known-in-SharedRead.ensures in record {
      known = rw (seen a, read_borrows a.at is, is) r.known;
      after = (released a c.list_noted.ensures.nobody is _ _ _ r.after
          (still_read kind.Shared _ _ c.if-shared_index.true)).view;
      rooms = ap (λ (x : EntryList _). x.rooms) c.self.view_is;
    }

pub returns-else-shared_index : goal.returns-else-shared_index
returns-else-shared_index g c =
    let a = (slot_at g (goal.at.returns-else-shared_index g c).After-index_mut).1 in
    let is = ap data_in c.in-SharedRead.is in let r = c.release-known-in-SharedRead.ensures in record {
      known = rw (seen a, read_borrows a.at is, is) r.known;
      after = (released a c.list_noted.ensures.nobody is _ _ _ r.after
          c.unlist-in-SharedRead.ensures).view;
      rooms = ap (λ (x : EntryList _). x.rooms) c.self.view_is;
    }

pub invariant_of-self-in_default : goal.invariant_of-self-in_default
invariant_of-self-in_default g c =
    let a = (slot_at g (goal.at.invariant_of-self-in_default g c).After-index_mut).1 in
    rw (set-own _ c.args.slot _ a.at.there) a.holds

pub returns-in_default : goal.returns-in_default
returns-in_default g c =
    let a = (slot_at g (goal.at.returns-in_default g c).After-index_mut).1 in
    let none = unread a c.list_noted.ensures.nobody
    (no_read c.in_default.not-Read c.in_default.not-SharedRead) c.args.ticket in
    record {
      known = none.0;
      after = rw (set-own _ c.args.slot _ a.at.there) none.1;
      rooms = ap (λ (x : EntryList _). x.rooms) c.self.view_is;
    }

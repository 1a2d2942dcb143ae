-- A listed writer ends.
use Rattle.store_cells.proofs.{ap, data_in, EntryList, eq-eqb, eqb-true, found, kept, lent_listed, lent_seen}
use Rattle.store_cells.proofs.{lent_used, listed, no_writer, refl, seen, set-own, written_back}
use Rattle.store_cells.proofs.entries.Entries.release_listed_writer.Goals as goal

pub first-requires : goal.first-requires
first-requires g c =
    let l = c.list_noted.ensures in let s = listed (kept c.self.view_is c.self.invariant) l.listed l.capacity in
    let a = (found s c.requires c.index_mut.ensures.value).1 in
    (lent_used a.at (ap data_in c.in-Lent.is) (lent_listed a.at (ap data_in c.in-Lent.is) l.nobody)).within

pub close-requires-clause-used : goal.close-requires-clause-used
close-requires-clause-used g c =
    let l = c.list_noted.ensures in let s = listed (kept c.self.view_is c.self.invariant) l.listed l.capacity in
    let a = (found s c.requires c.index_mut.ensures.value).1 in
    (lent_used a.at (ap data_in c.in-Lent.is)
    (lent_listed a.at (ap data_in c.in-Lent.is) l.nobody)).used

pub returns-then-first-ticket-clause-known : goal.returns-then-first-ticket-clause-known
returns-then-first-ticket-clause-known g c =
    let l = c.list_noted.ensures in let s = listed (kept c.self.view_is c.self.invariant) l.listed l.capacity in
    let a = (found s c.requires c.index_mut.ensures.value).1 in
    let some = lent_listed a.at (ap data_in c.in-Lent.is) l.nobody in
    rw (seen a, lent_seen a.at (ap data_in c.in-Lent.is) (λ z. absurd (some z)) (λ z. c.first.ensures) _)
    (λ f. absurd cc, λ h. absurd (c.if-first-ticket.true (eqb-true _ _ h)))

pub returns-else-first-ticket-clause-known : goal.returns-else-first-ticket-clause-known
returns-else-first-ticket-clause-known g c =
    let l = c.list_noted.ensures in let s = listed (kept c.self.view_is c.self.invariant) l.listed l.capacity in
    let a = (found s c.requires c.index_mut.ensures.value).1 in
    let some = lent_listed a.at (ap data_in c.in-Lent.is) l.nobody in
    rw (seen a, lent_seen a.at (ap data_in c.in-Lent.is) (λ z. absurd (some z)) (λ z. c.first.ensures) _)
    (λ t. eq-eqb _ _ c.if-first-ticket.false, λ h. refl)

pub invariant_of-self-in-Lent : goal.invariant_of-self-in-Lent
invariant_of-self-in-Lent g c =
    let l = c.list_noted.ensures in let s = listed (kept c.self.view_is c.self.invariant) l.listed l.capacity in
    let a = (found s c.requires c.index_mut.ensures.value).1 in
    let some = lent_listed a.at (ap data_in c.in-Lent.is) l.nobody in
    (written_back a l.nobody (ap data_in c.in-Lent.is) some c.first.ensures c.close.ensures _ _ c.put_back.ensures).holds

pub returns-else-first-ticket-clause-ok : goal.returns-else-first-ticket-clause-ok
returns-else-first-ticket-clause-ok g c =
    let l = c.list_noted.ensures in let s = listed (kept c.self.view_is c.self.invariant) l.listed l.capacity in
    let a = (found s c.requires c.index_mut.ensures.value).1 in
    let some = lent_listed a.at (ap data_in c.in-Lent.is) l.nobody in
    (written_back a l.nobody (ap data_in c.in-Lent.is) some c.first.ensures c.close.ensures _ _ c.put_back.ensures).view

pub returns-in_default : goal.returns-in_default
returns-in_default g c =
    let l = c.list_noted.ensures in let s = listed (kept c.self.view_is c.self.invariant) l.listed l.capacity in
    let a = (found s c.requires c.index_mut.ensures.value).1 in
    record {
      known = rw (seen a, no_writer c.in_default.not-Lent _ _ c.args.ticket) (λ f. absurd cc, λ h. absurd cc);
      ok = tt;
      err = (refl, rw (set-own _ c.args.slot _ a.at.there) s.view);
      rooms = ap (λ (x : EntryList _). x.rooms) c.self.view_is;
    }

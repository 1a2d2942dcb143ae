-- A reader that begins is noted, and listed first if there are others.
use Rattle.store_cells.proofs.{arith, begun, begun_alone, err_then, found, found_there, kept, listed}
use Rattle.store_cells.proofs.{listed_below, many, readable_within, seen, stopped, used_here}
use Rattle.store_cells.proofs.entries.Entries.begin_read.Goals as goal
use goal.{else-not-is_unborrowed, then-not-is_unborrowed+in_ok-list_beside}

pub index-requires : goal.index-requires
index-requires g c =
    let l = c.list_noted.ensures in let s = listed (kept c.self.view_is c.self.invariant) l.listed l.capacity in
    omega (arith, many s, readable_within c.args.self.now.slots c.args.name.slot c.args.name.generation c.requires.there)

pub list_beside-requires : goal.list_beside-requires
list_beside-requires g c =
    let l = c.list_noted.ensures in let s = listed (kept c.self.view_is c.self.invariant) l.listed l.capacity in
    let a = (found s (readable_within _ _ _ c.requires.there) c.index.ensures).1 in
    record { within = λ some. (used_here a.at some).within; ascends = listed_below a _ c.requires.there c.requires.ascends }

pub returns-in_err-list_beside-clause-beside : goal.returns-in_err-list_beside-clause-beside
returns-in_err-list_beside-clause-beside g c =
    let l = c.list_noted.ensures in let s = listed (kept c.self.view_is c.self.invariant) l.listed l.capacity in
    let a = (found s (readable_within _ _ _ c.requires.there) c.index.ensures).1 in
    err_then c.from_residual.result (rw (seen a) (stopped a c.in_err-list_beside.ensures.beside))

pub invariant_of-self-2 : goal.invariant_of-self-2
invariant_of-self-2 g c =
    let l = c.list_noted.ensures in let s = listed (kept c.self.view_is c.self.invariant) l.listed l.capacity in
    let within = readable_within _ _ _ c.requires.there in
    rw c.note.ensures (elim c.if-not-is_unborrowed.branch [
      | then-not-is_unborrowed+in_ok-list_beside w ↦ rw w.self-inside-is (begun (found s within w.index.ensures).1 _
          c.requires.there l.nobody c.args.borrow w.in_ok-list_beside.ensures.ok).holds
      | else-not-is_unborrowed w ↦ rw w.self-inside-is (begun_alone (found_there s within).2 _
          c.requires.there l.nobody c.args.borrow (c.requires.alone w.if-not-is_unborrowed.false)).holds
    ])

pub returns-clause-ok : goal.returns-clause-ok
returns-clause-ok g c =
    let l = c.list_noted.ensures in let s = listed (kept c.self.view_is c.self.invariant) l.listed l.capacity in
    let within = readable_within _ _ _ c.requires.there in
    rw c.note.ensures (elim c.if-not-is_unborrowed.branch [
      | then-not-is_unborrowed+in_ok-list_beside w ↦ rw w.self-inside-is (begun (found s within w.index.ensures).1 _
          c.requires.there l.nobody c.args.borrow w.in_ok-list_beside.ensures.ok).view
      | else-not-is_unborrowed w ↦ rw w.self-inside-is (begun_alone (found_there s within).2 _
          c.requires.there l.nobody c.args.borrow (c.requires.alone w.if-not-is_unborrowed.false)).view
    ])

-- A cell's removal, with its borrows.
use Rattle.store_cells.proofs.{ended, found, free_holds, free_view, kept, quiet, refl, seen, sym, used_x}
use Rattle.store_cells.proofs.entries.Entries.end.Goals as goal

pub give_back-requires : goal.give_back-requires
give_back-requires g c =
    let a = (found (kept c.self.view_is c.self.invariant) c.requires.within c.index_mut-entry.ensures.value).1 in
    used_x a.at (sym c.index-index.ensures)

pub invariant_of-self : goal.invariant_of-self
invariant_of-self g c =
    let a = (found (kept c.self.view_is c.self.invariant) c.requires.within c.index_mut-entry.ensures.value).1 in
    let q = quiet a (rw (seen a) at (c.requires.alone c.if-is_unborrowed.true)) in
    free_holds a q _ refl

pub invariant_of-self-2 : goal.invariant_of-self-2
invariant_of-self-2 g c =
    let a = (found (kept c.self.view_is c.self.invariant) c.requires.within c.index_mut-entry.ensures.value).1 in
    (ended a c.forget.ensures (sym c.index-index.ensures) c.give_back.ensures.none c.give_back.ensures.some).holds

pub returns-then-is_unborrowed-clause-slots : goal.returns-then-is_unborrowed-clause-slots
returns-then-is_unborrowed-clause-slots g c =
    let a = (found (kept c.self.view_is c.self.invariant) c.requires.within c.index_mut-entry.ensures.value).1 in
    let q = quiet a (rw (seen a) at (c.requires.alone c.if-is_unborrowed.true)) in
    free_view a q _ refl _ (λ d. refl)

pub returns-clause-slots : goal.returns-clause-slots
returns-clause-slots g c =
    let a = (found (kept c.self.view_is c.self.invariant) c.requires.within c.index_mut-entry.ensures.value).1 in
    (ended a c.forget.ensures (sym c.index-index.ensures) c.give_back.ensures.none c.give_back.ensures.some).view

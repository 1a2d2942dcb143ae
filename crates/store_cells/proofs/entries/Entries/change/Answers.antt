-- A value without borrows is changed in place: its index and the table stay.
use Rattle.store_cells.proofs.{alone, found, free_holds, free_view, kept, no_data, refl, says, seen}
use Rattle.store_cells.proofs.entries.Entries.change.Goals as goal
use goal.{in-Data, in-Shared}

pub unreachable-requires : goal.unreachable-requires
unreachable-requires g c =
    let a = (found (kept c.self.view_is c.self.invariant) c.requires.within c.index_mut.ensures.value).1 in
    no_data c.in_default.not-Data c.in_default.not-Shared (alone a (rw (seen a) at c.requires.free)).1.2

pub invariant_of-self : goal.invariant_of-self
invariant_of-self g c =
    let a = (found (kept c.self.view_is c.self.invariant) c.requires.within c.index_mut.ensures.value).1 in
    let away = (alone a (rw (seen a) at c.requires.free)).0 in
    elim c.match-index_mut.branch [
      | in-Data w ↦ rw w.self-inside-is (free_holds a (away, rw w.in-Data.is refl) _ refl)
      | in-Shared w ↦ rw w.self-inside-is (free_holds a (away, rw w.in-Shared.is refl) _ refl)
    ]

pub f-requires : goal.f-requires
f-requires g c =
    let a = (found (kept c.self.view_is c.self.invariant) c.requires.within c.index_mut.ensures.value).1 in
    let away = (alone a (rw (seen a) at c.requires.free)).0 in
    c.requires.callable _ (says a _ (λ d. rw (c.in-Data.is, away) refl))

pub f-requires-in-Shared : goal.f-requires-in-Shared
f-requires-in-Shared g c =
    let a = (found (kept c.self.view_is c.self.invariant) c.requires.within c.index_mut.ensures.value).1 in
    let away = (alone a (rw (seen a) at c.requires.free)).0 in
    c.requires.callable _ (says a _ (λ d. rw (c.in-Shared.is, away) refl))

pub returns-clause-changed : goal.returns-clause-changed
returns-clause-changed g c =
    let a = (found (kept c.self.view_is c.self.invariant) c.requires.within c.index_mut.ensures.value).1 in
    let away = (alone a (rw (seen a) at c.requires.free)).0 in
    elim c.match-index_mut.branch [
      | in-Data w ↦ rw (w.result-is, w.self-inside-is) (
        _,
        _,
        record { shown = _; shows = refl; left = _; met = w.f.ensures; leaves = refl },
        says a _ (λ d. rw (w.in-Data.is, away) refl),
        free_view a (away, rw w.in-Data.is refl) _ refl _ (λ d. rw w.in-Data.is refl),
      )
      | in-Shared w ↦ rw (w.result-is, w.self-inside-is) (
        _,
        _,
        record { shown = _; shows = refl; left = _; met = w.f-in-Shared.ensures; leaves = refl },
        says a _ (λ d. rw (w.in-Shared.is, away) refl),
        free_view a (away, rw w.in-Shared.is refl) _ refl _ (λ d. rw w.in-Shared.is refl),
      )
    ]

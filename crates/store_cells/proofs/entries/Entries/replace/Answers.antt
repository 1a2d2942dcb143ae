-- A value without borrows is replaced: its index and the table stay.
use Rattle.store_cells.proofs.{alone, found, free_holds, free_view, kept, no_data, refl, says, seen}
use Rattle.store_cells.proofs.entries.Entries.replace.Goals as goal
use goal.{in-Data, in-Shared}

pub unreachable-requires : goal.unreachable-requires
unreachable-requires g c =
    let a = (found (kept c.self.view_is c.self.invariant) c.requires.within c.index_mut.ensures.value).1 in
    no_data c.in_default.not-Data c.in_default.not-Shared (alone a (rw (seen a) at c.requires.free)).1.2

pub invariant_of-self : goal.invariant_of-self
invariant_of-self g c =
    let a = (found (kept c.self.view_is c.self.invariant) c.requires.within c.index_mut.ensures.value).1 in
    let away = (alone a (rw (seen a) at c.requires.free)).0 in
    elim c.match-index_mut.branch [
      | in-Data w ↦ rw w.self-inside-is (free_holds a (away, rw w.in-Data.is refl) _ refl)
      | in-Shared w ↦ rw w.self-inside-is (free_holds a (away, rw w.in-Shared.is refl) _ refl)
    ]

pub returns-clause-value : goal.returns-clause-value
returns-clause-value g c =
    let a = (found (kept c.self.view_is c.self.invariant) c.requires.within c.index_mut.ensures.value).1 in
    let away = (alone a (rw (seen a) at c.requires.free)).0 in
    elim c.match-index_mut.branch [
      | in-Data w ↦ rw w.result-is (says a _ (λ d. rw (w.in-Data.is, away, w.replace.ensures.value) refl))
      | in-Shared w ↦ rw w.result-is (says a _ (λ d. rw (w.in-Shared.is, away, w.replace-in-Shared.ensures.value) refl))
    ]

pub returns-clause-after : goal.returns-clause-after
returns-clause-after g c =
    let a = (found (kept c.self.view_is c.self.invariant) c.requires.within c.index_mut.ensures.value).1 in
    let away = (alone a (rw (seen a) at c.requires.free)).0 in
    elim c.match-index_mut.branch [
      | in-Data w ↦ rw w.self-inside-is (free_view a (away, rw w.in-Data.is refl) _ refl _
          (λ d. rw (w.in-Data.is, w.replace.ensures.after) refl))
      | in-Shared w ↦ rw w.self-inside-is (free_view a (away, rw w.in-Shared.is refl) _ refl _
          (λ d. rw (w.in-Shared.is, w.replace-in-Shared.ensures.after) refl))
    ]

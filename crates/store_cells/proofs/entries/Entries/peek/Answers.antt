-- The slot's value, unless a writer has it.
use Rattle.store_cells.proofs.{data_form, found, kept, no_value, refl, says, seen}
use Rattle.store_cells.proofs.entries.Entries.peek.Goals as goal

pub returns-in-Data : goal.returns-in-Data
returns-in-Data g c =
    says (found (kept c.self.view_is c.self.invariant) c.requires c.index.ensures).1 _ (λ d. rw (data_form c.in-Data.is).1 refl)

pub returns-in-Read : goal.returns-in-Read
returns-in-Read g c =
    says (found (kept c.self.view_is c.self.invariant) c.requires c.index.ensures).1 _ (λ d. rw c.in-Read.is refl)

pub returns-in-SharedRead : goal.returns-in-SharedRead
returns-in-SharedRead g c =
    says (found (kept c.self.view_is c.self.invariant) c.requires c.index.ensures).1 _ (λ d. rw c.in-SharedRead.is refl)

pub returns-in_default : goal.returns-in_default
returns-in_default g c =
    rw (seen (found (kept c.self.view_is c.self.invariant) c.requires c.index.ensures).1)
    (no_value c.in_default.not-Data c.in_default.not-Shared c.in_default.not-Read c.in_default.not-SharedRead _ _)

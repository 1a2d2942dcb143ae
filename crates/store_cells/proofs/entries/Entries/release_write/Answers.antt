-- A writer that is noted ends, and one that is listed.
use Rattle.store_cells.proofs.{eq-eqb, found, kept, noted_lent, refl, seen, sym, write_ended, writes_at, ◌∙◌}
use Rattle.store_cells.proofs.entries.Entries.release_write.Goals as goal

pub invariant_of-self : goal.invariant_of-self
invariant_of-self g c =
    let a = (found (kept c.self.view_is c.self.invariant) c.requires c.index_mut.ensures.value).1 in
    (write_ended a _ _ _ (sym c.is_writer_at.ensures ∙ c.if-is_writer_at.true) c.put_back.ensures).holds

pub returns-then-is_writer_at-clause-known : goal.returns-then-is_writer_at-clause-known
returns-then-is_writer_at-clause-known g c =
    let a = (found (kept c.self.view_is c.self.invariant) c.requires c.index_mut.ensures.value).1 in
    let is = writes_at c.self.inside.last c.args.slot c.args.ticket (sym c.is_writer_at.ensures ∙ c.if-is_writer_at.true) in
    rw (seen a, (noted_lent a.at is.0 is.1).1, is.0) (λ t. eq-eqb c.self.inside.last.borrow.ticket c.args.ticket is.2, λ h. refl)

pub returns-then-is_writer_at-clause-ok : goal.returns-then-is_writer_at-clause-ok
returns-then-is_writer_at-clause-ok g c =
    let a = (found (kept c.self.view_is c.self.invariant) c.requires c.index_mut.ensures.value).1 in
    (write_ended a _ _ _ (sym c.is_writer_at.ensures ∙ c.if-is_writer_at.true) c.put_back.ensures).view

use Rattle.document_tree.proofs.Counting.{parts_counted}
use Rattle.document_tree.proofs.{ap, count_by, DocumentState, IsDocumentKept, is_some, subst, sym, ◌∙◌}
use Rattle.document_tree.specs.Counting.{HasParts}
use Rattle.document_tree.proofs.document.Document.part_count.Goals as goal

pub returns-clause-used : goal.returns-clause-used
returns-clause-used g c = subst (HasParts c.args.self.now)
    (sym (ap (λ (D : DocumentState _). count_by is_some D.parts) c.self.view_is) ∙ sym c.len.ensures)
    (parts_counted c.args.self.now
    (subst (λ (D : DocumentState _). IsDocumentKept D.state D.parts D.sites) c.self.view_is c.self.invariant))

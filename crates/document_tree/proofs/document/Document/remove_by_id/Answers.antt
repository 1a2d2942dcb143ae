use Rattle.document_tree.proofs.Flagging.{parted_of}
use Rattle.document_tree.proofs.{DocumentState, IsDocumentKept, subst}
use Rattle.document_tree.proofs.document.Document.remove_by_id.Goals as goal

pub returns-in_default-clause-here : goal.returns-in_default-clause-here
returns-in_default-clause-here g c q same = parted_of c.args.self.now
    (subst (λ (D : DocumentState _). IsDocumentKept D.state D.parts D.sites) c.self.view_is c.self.invariant) q
    (c.in_default.ensures.none q same)

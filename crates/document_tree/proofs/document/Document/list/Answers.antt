use Rattle.document_tree.proofs.Flagging.{listed_more, read_any}
use Rattle.document_tree.proofs.{ap, DocumentState, GenerationalBoxId, IsDocumentKept, subst, sym, ◌∙◌}
use Rattle.document_tree.proofs.document.Document.list.Goals as goal

pub returns-in_ok-push-clause-listed : goal.returns-in_ok-push-clause-listed
returns-in_ok-push-clause-listed g c =
    listed_more c.args.self.now
    (subst (λ (D : DocumentState _). IsDocumentKept D.state D.parts D.sites) c.self.view_is c.self.invariant)
    c.in-Some.place c.args.id.slot c.requires.listed
    (ap (λ (i : GenerationalBoxId). i.slot) c.in-Some.ensures.found) c.requires.within
    (read_any c.args.flags.now.items c.args.id.slot _ _ c.requires.within ∙ (sym c.index.ensures ∙ c.if-index.false))
    c.in-Some.ensures.live c.in_ok-push.ensures.items

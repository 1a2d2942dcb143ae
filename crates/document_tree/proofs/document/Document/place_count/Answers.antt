use Rattle.document_tree.proofs.Counting.{part_counted}
use Rattle.document_tree.proofs.{DocumentState, IsDocumentKept, subst, sym}
use Rattle.document_tree.specs.Counting.{PartHasPlaces}
use Rattle.document_tree.proofs.document.Document.place_count.Goals as goal

pub returns-in-Some-clause-count : goal.returns-in-Some-clause-count
returns-in-Some-clause-count g c = subst (PartHasPlaces c.args.self.now c.args.place) (sym c.count_of.ensures)
    (part_counted c.args.self.now c.args.place c.in-Some.part.now
    (subst (λ (D : DocumentState _). IsDocumentKept D.state D.parts D.sites) c.self.view_is c.self.invariant)
    (sym c.in-Some.ensures))

use Rattle.document_tree.proofs.{fresh_kept}
use Rattle.document_tree.proofs.document.Document.new.Goals as goal

pub invariant_of-result : goal.invariant_of-result
invariant_of-result g c = rw (c.new.ensures.empty, c.new-2.ensures, c.requires) (fresh_kept _ _ _)

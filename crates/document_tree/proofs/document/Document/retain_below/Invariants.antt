use Rattle.document_tree.proofs.Flagging.{IsSwept}
use Rattle.document_tree.proofs.document.Document.retain_below.Given as goal

-- the places of the first cells without a flag are removed
abbrev pub invariant-loop-at : goal.invariant-loop-at
invariant-loop-at g l = record {
  swept : IsSwept l.fn.self l.fn.place l.flags.items l.cells.items l.at l.self;
}

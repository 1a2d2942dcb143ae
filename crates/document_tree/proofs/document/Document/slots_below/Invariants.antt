use Rattle.document_tree.proofs.Flagging.{IsMet}
use Rattle.document_tree.proofs.{length, slots, ◌≡◌}
use Rattle.document_tree.specs.Flagging.{AreFlagged}
use Rattle.document_tree.proofs.document.Document.slots_below.Given as goal

-- the place and the children of the first places are flagged
abbrev pub invariant-loop-at : goal.invariant-loop-at
invariant-loop-at g l = record {
  flagged : AreFlagged l.self (IsMet l.self l.fn.place l.places.items l.at) l.flags.items;
  length : length l.flags.items ≡ slots l.self.state;
}

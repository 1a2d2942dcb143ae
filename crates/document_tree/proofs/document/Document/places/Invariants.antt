use Rattle.document_tree.proofs.Flagging.{AreMet}
use Rattle.document_tree.proofs.{length, slots, ◌≡◌}
use Rattle.document_tree.specs.Flagging.{AreListed}
use Rattle.document_tree.proofs.document.Document.places.Given as goal

-- the places of the first cells are listed
abbrev pub invariant-loop-at : goal.invariant-loop-at
invariant-loop-at g l = record {
  listed : AreListed l.self l.places.items l.flags.items;
  length : length l.flags.items ≡ slots l.self.state;
  met : AreMet l.self l.cells.items l.flags.items l.at;
}

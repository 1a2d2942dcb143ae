use Rattle.document_tree.proofs.Gathering.{IsFirst, IsGathering, unmarked}
use Rattle.document_tree.proofs.{length, ◌≡◌}
use Rattle.document_tree.proofs.document.Document.outline_once.Given as goal

abbrev pub invariant-loop-next : goal.invariant-loop-next
invariant-loop-next g l = record {
  gathering : IsGathering l.self l.fn.place l.places.items l.waiting.items l.marks.items;
  first : IsFirst l.self l.fn.place l.places.items l.waiting.items l.marks.items;
  length : length l.marks.items ≡ l.end;
}

abbrev pub decreases-loop-next : goal.decreases-loop-next
decreases-loop-next g l = unmarked l.marks.items

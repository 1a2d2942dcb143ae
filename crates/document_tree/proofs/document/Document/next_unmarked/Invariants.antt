use Rattle.document_tree.proofs.{length, ◌≡◌, ◌⊎◌}
use Rattle.document_tree.specs.Documents.{Place}
use Rattle.document_tree.specs.Marks.{IsPassed}
use Rattle.std.specs.List.{Contains}
use Rattle.document_tree.proofs.document.Document.next_unmarked.Given as goal

-- what was removed from the list was passed
abbrev pub invariant-loop-next : goal.invariant-loop-next
invariant-loop-next g l = record {
  left : (q : Place) → Contains l.waiting.items q → Contains l.fn.waiting.items q;
  passed : (q : Place) → Contains l.fn.waiting.items q
      → Contains l.waiting.items q ⊎ IsPassed l.self l.fn.marks.items q;
  same : l.marks.items ≡ l.fn.marks.items;
}

abbrev pub decreases-loop-next : goal.decreases-loop-next
decreases-loop-next g l = length l.waiting.items

use Rattle.document_tree.proofs.{length, outline_places, reverse, [], ◌++◌, ◌-◌, ◌∷◌, ◌≡◌, ◌≤◌}
use Rattle.document_tree.proofs.document.Document.outline.Given as goal

-- what was read, and then what is read of the places that wait, the last of them first
abbrev pub invariant-loop-waiting : goal.invariant-loop-waiting
invariant-loop-waiting g l = record {
  within : length l.places.items ≤ l.limit;
  read : l.places.items ++ outline_places l.self (l.limit - length l.places.items) (reverse l.waiting.items)
      ≡ outline_places l.self l.limit (l.fn.place ∷ []);
}

abbrev pub decreases-loop-waiting : goal.decreases-loop-waiting
decreases-loop-waiting g l = l.limit - length l.places.items

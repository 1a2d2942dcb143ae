use Rattle.document_tree.proofs.{All, deep_outline_of, length, reverse, [], ◌++◌, ◌-◌, ◌∷◌, ◌≡◌, ◌≤◌}
use Rattle.document_tree.proofs.document.Document.outline_with_depth.Given as goal

-- what was read, and then what is read of the places that wait, the last of them first; none waits
-- deeper than so many places were read
abbrev pub invariant-loop-waiting : goal.invariant-loop-waiting
invariant-loop-waiting g l = record {
  within : length l.places.items ≤ l.limit;
  shallow : All (λ p. p.0 ≤ length l.places.items) l.waiting.items;
  read : l.places.items
      ++ deep_outline_of l.self (l.limit - length l.places.items) (reverse l.waiting.items)
      ≡ deep_outline_of l.self l.limit ((0, l.fn.place) ∷ []);
}

abbrev pub decreases-loop-waiting : goal.decreases-loop-waiting
decreases-loop-waiting g l = l.limit - length l.places.items

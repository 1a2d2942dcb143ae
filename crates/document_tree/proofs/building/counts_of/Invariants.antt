use Rattle.std.proofs.Common.{◌≡◌, length}
use Rattle.document_tree.specs.Building.{AreSpotsCounted}
use Rattle.document_tree.proofs.building.counts_of.Given as goal

-- the places so far are counted
abbrev pub invariant-loop-at : goal.invariant-loop-at
invariant-loop-at l = record {
  counted : AreSpotsCounted l.spots l.at l.counts.items;
  length : length l.counts.items ≡ l.count;
}

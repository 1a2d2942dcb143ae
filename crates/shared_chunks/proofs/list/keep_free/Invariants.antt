use Rattle.std.proofs.Common.{◌≤◌, length, max}
use Rattle.shared_chunks.specs.Listed.{AreLarge}
use Rattle.shared_chunks.proofs.list.keep_free.Given as goal

abbrev pub invariant-loop : goal.invariant-loop
invariant-loop g l = record {
  large : AreLarge l.initial.free.items → AreLarge l.free.items;
  few : length l.free.items ≤ max 128 (length l.initial.free.items);
  count : length l.free.items ≤ max l.counter (length l.initial.free.items);
}

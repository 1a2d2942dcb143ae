use Rattle.std.proofs.Common.{◌≡◌, ◌≤◌, length}
use Rattle.scene_tree.specs.Building.{AreLone}
use Rattle.scene_tree.proofs.rebuilding.open_all.Given as goal

-- the slots so far are open
abbrev pub invariant-loop-slot : goal.invariant-loop-slot
invariant-loop-slot g l = record {
  number : l.links.number ≡ l.fn.links.number;
  lone : AreLone l.links.items;
  count : length l.links.items ≡ l.slot;
  most : l.slot ≤ l.slots;
}

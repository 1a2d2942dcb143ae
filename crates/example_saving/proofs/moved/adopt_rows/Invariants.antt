use Rattle.std.proofs.Common.{◌≡◌, ◌++◌, List, length}
use Rattle.scene_tree.specs.declared.parts.ChildRow.{ChildRow}
use Rattle.example_saving.specs.Moving.{AreAdopted}
use Rattle.example_saving.proofs.moved.adopt_rows.Given as goal

-- the rows so far were adopted
abbrev pub invariant-loop-row : goal.invariant-loop-row
invariant-loop-row l = (done : List ChildRow) × (l.rows ≡ done ++ l.left) × AreAdopted l.loaded done l.moved.items

abbrev pub decreases-loop-row : goal.decreases-loop-row
decreases-loop-row l = length l.left

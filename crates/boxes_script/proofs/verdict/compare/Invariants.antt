use Rattle.boxes_script.specs.Told.{AreSameBelow}
use Rattle.boxes_script.proofs.verdict.compare.Given as goal

-- the replies so far are the same, and none of the calls failed to allocate
abbrev pub invariant-loop-place : goal.invariant-loop-place
invariant-loop-place l = AreSameBelow l.ones l.others l.place

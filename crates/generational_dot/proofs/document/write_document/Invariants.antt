use Rattle.std.proofs.Common.{◌-◌}
use Rattle.generational_dot.proofs.document.write_document.Given as goal

abbrev pub invariant-loop-next : goal.invariant-loop-next
invariant-loop-next g l = goal.F-IsAlwaysCallable g l.label

abbrev pub decreases-loop-next : goal.decreases-loop-next
decreases-loop-next g l = l.limit - l.next

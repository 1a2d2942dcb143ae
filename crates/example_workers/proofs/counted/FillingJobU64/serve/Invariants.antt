use Rattle.std.proofs.Common.{◌≡◌, ◌+◌, ◌≤◌}
use Rattle.example_workers.proofs.counted.FillingJobU64.serve.Given as goal

abbrev pub invariant-loop-number : goal.invariant-loop-number
invariant-loop-number g l =
    (((g.W.Worker).counts l.worker).made ≡ ((g.W.Worker).counts l.fn.worker).made + l.stored) × (l.stored ≤ l.number)

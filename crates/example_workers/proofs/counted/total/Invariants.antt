use Rattle.std.proofs.Common.{◌≡◌, ◌+◌, ◌*◌, ◌≤◌, length, sum}
use Rattle.example_workers.proofs.counted.total.Given as goal

abbrev pub invariant-loop-stored : goal.invariant-loop-stored
invariant-loop-stored l =
    (goal.iterator-loop-stored).can_next l.stored-iterator
    × (goal.iterator-loop-stored).is_finite l.stored-iterator
    × (l.total + sum l.stored-iterator.rest.items ≡ sum l.fn.answers.items)
    × (l.total + 4294967295 * length l.stored-iterator.rest.items ≤ 4294967295 * l.workers)

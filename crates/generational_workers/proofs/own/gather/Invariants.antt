use Rattle.std.proofs.Common.{◌≡◌, ◌+◌, ◌++◌, map, length}
use Rattle.generational_workers.specs.Runs.{all_merged}
use Rattle.generational_workers.proofs.own.gather.Given as goal

-- no part is missing of those that are merged and those that are left, and all that was counted and
-- returned is there or there
abbrev pub invariant-loop-own : goal.invariant-loop-own
invariant-loop-own g l =
    (goal.iterator-loop-own g).can_next l.own-iterator
    × (goal.iterator-loop-own g).is_finite l.own-iterator
    × (l.whole.parts + length l.own-iterator.rest.items ≡ l.workers + 1)
    × (all_merged l.whole (map (λ s. s.0.tally) l.own-iterator.rest.items)
    ≡ all_merged l.fn.chief.tally (map (λ s. s.0.tally) l.fn.served.items))
    × (l.answers.items ++ map (λ s. s.1) l.own-iterator.rest.items
    ≡ map (λ s. s.1) l.fn.served.items)

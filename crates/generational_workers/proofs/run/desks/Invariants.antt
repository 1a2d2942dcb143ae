use Rattle.std.proofs.Common.{◌≡◌, ◌++◌, map, All}
use Rattle.shared_history.specs.Counts.{Counts}
use Rattle.generational_workers.proofs.run.desks.Given as goal

-- each tally has a desk already or is left, and those that are left are of one worker each
abbrev pub invariant-loop-tally : goal.invariant-loop-tally
invariant-loop-tally g l =
    (goal.iterator-loop-tally g).can_next l.tally-iterator
    × (goal.iterator-loop-tally g).is_finite l.tally-iterator
    × All (λ (c : Counts). c.parts ≡ 1) l.tally-iterator.rest.items
    × (map (λ d. d.own.tally) l.desks.items ++ l.tally-iterator.rest.items ≡ l.fn.tallies.items)

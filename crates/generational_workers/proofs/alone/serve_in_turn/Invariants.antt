use Rattle.std.proofs.Common.{◌≡◌, ◌+◌, ◌++◌, List, map, All, length}
use Rattle.shared_history.specs.Counts.{Counts}
use Rattle.generational_workers.specs.Runs.{HaveServed}
use Rattle.generational_workers.proofs.alone.serve_in_turn.Given as goal

-- some tallies have served, and those that are left are of one worker each
abbrev pub invariant-loop-tally : goal.invariant-loop-tally
invariant-loop-tally g l =
    (goal.iterator-loop-tally g).can_next l.tally-iterator
    × (goal.iterator-loop-tally g).is_finite l.tally-iterator
    × All (λ (c : Counts). c.parts ≡ 1) l.tally-iterator.rest.items
    × (length l.served.items + length l.tally-iterator.rest.items ≡ length l.fn.tallies.items)
    × ((done : List Counts) × (done ++ l.tally-iterator.rest.items ≡ l.fn.tallies.items)
    × HaveServed ((g.S.Job).serves l.fn.service l.fn.shared) done (map (λ s. s.1) l.served.items)
    (map (λ s. s.0.tally) l.served.items))

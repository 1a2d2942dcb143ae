use Rattle.reactive.proofs.{AllHear, Key, kind_in, length, List, Option, plans_in, shown_in, Some, Told, ◌++◌, ◌≡◌, ◌≤◌}
use Rattle.reactive.specs.declared.effects.Effect.{Effect}
use Rattle.std.specs.Prelude.{◌*◌}
use Rattle.reactive.proofs.reactive.Reactive.flush_block.Given as goal

-- If the slots before the block are up to date, so are those before this slot.
abbrev pub invariant-loop-slot : goal.invariant-loop-slot
invariant-loop-slot g l =
    (plans_in g.R.Rule.plan l.self ≡ plans_in g.R.Rule.plan l.fn.self)
    × ((news : List (Told _)) × (l.told.items ≡ l.fn.told.items ++ news)
    × ((before : List (Option (Effect _))) (earlier : List (Told _)) →
    AllHear g.T.Value.is_same (plans_in g.R.Rule.plan l.fn.self) (kind_in l.fn.self) (64 * l.fn.block) before
    l.fn.self.effects earlier → AllHear g.T.Value.is_same (plans_in g.R.Rule.plan l.fn.self) (kind_in l.fn.self) l.slot before
    l.self.effects (earlier ++ news)))
    × (kind_in l.self ≡ kind_in l.fn.self)
    × ((k : Key) (v : _) → shown_in l.fn.self k ≡ Some v → shown_in l.self k ≡ Some v)
    × (l.slot ≤ l.end)
    × (length l.self.effects ≡ length l.fn.self.effects)

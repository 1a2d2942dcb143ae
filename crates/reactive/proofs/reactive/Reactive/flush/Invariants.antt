use Rattle.reactive.proofs.{AllHear, Key, kind_in, length, List, plans_in, shown_in, Some, Told, ℕ, ◌++◌, ◌<◌, ◌≡◌, ◌⊎◌}
use Rattle.std.specs.Prelude.{◌*◌}
use Rattle.reactive.proofs.reactive.Reactive.flush.Given as goal

-- The slots of the blocks before this one are up to date.
abbrev pub invariant-loop-block : goal.invariant-loop-block
invariant-loop-block g l =
    (plans_in g.R.Rule.plan l.self ≡ plans_in g.R.Rule.plan l.fn.self)
    × ((n : ℕ) × (news : List (Told _)) × (l.told.items ≡ l.fn.told.items ++ news)
    × AllHear g.T.Value.is_same (plans_in g.R.Rule.plan l.fn.self) (kind_in l.fn.self) n
    l.fn.self.effects l.self.effects news
    × ((n ≡ 64 * l.block) ⊎ ((n ≡ length l.fn.self.effects) × (length l.fn.self.effects < 64 * l.block))))
    × (kind_in l.self ≡ kind_in l.fn.self)
    × ((k : Key) (v : _) → shown_in l.fn.self k ≡ Some v → shown_in l.self k ≡ Some v)

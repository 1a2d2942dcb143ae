use Rattle.store_slots.proofs.{all, cells_of, drop, IfSome, is_named, lives, name_of_cell, take_away, true, ◌≡◌}
use Rattle.std.proofs.Common.{map as list_map}
use Rattle.store_slots.proofs.blocking_borrow.find_blocking_value.Given as goal

-- what hinders the rest is what hinders all, and what was spared stays live
abbrev pub invariant-loop-name : goal.invariant-loop-name
invariant-loop-name g l =
    let slots = l.entries.slots in
    let names = list_map name_of_cell l.names in
    let named = is_named (take_away (cells_of slots) names) in
    (all slots named (drop l.name-index names) ≡ all slots named names)
    × IfSome l.spared (λ v. lives slots named (name_of_cell v) ≡ true)

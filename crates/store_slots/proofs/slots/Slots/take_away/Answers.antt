-- The end of a name, with the value that goes then.
use Rattle.store_slots.proofs.{arith, cond, has_target, is_some, name_of_cell, None, option_map, reference_goes, refl}
use Rattle.store_slots.proofs.{sym, value_closes, without, ◌∙◌, ◌≡◌}
use Rattle.store_slots.proofs.slots.Slots.take_away.Goals as goal

pub remove-requires-then-is_some : goal.remove-requires-then-is_some
remove-requires-then-is_some g c =
    let gone : c.match-ending.self.state
    ≡ without c.args.self.now.state (option_map name_of_cell c.args.ending) = grind arith in
    let named : option_map name_of_cell c.match-ending.named
    ≡ cond (is_some (option_map name_of_cell c.args.ending)) None
    (option_map name_of_cell c.args.target) = grind arith in
    let goes = reference_goes _ _ c.requires.linked _ c.requires.ending c.requires.target
    (has_target name_of_cell c.args.target refl (sym c.is_some.ensures ∙ c.if-is_some.true)) in
    rw gone (record { there = goes.there; named = named ∙ goes.named; alone = λ is. goes.alone })

pub returns-then-is_some : goal.returns-then-is_some
returns-then-is_some g c =
    let gone : c.match-ending.self.state
    ≡ without c.args.self.now.state (option_map name_of_cell c.args.ending) = grind arith in
    let goes = reference_goes _ _ c.requires.linked _ c.requires.ending c.requires.target
    (has_target name_of_cell c.args.target refl (sym c.is_some.ensures ∙ c.if-is_some.true)) in
    (rw gone at c.remove-then-is_some.ensures) ∙ goes.closes

pub returns-else-is_some : goal.returns-else-is_some
returns-else-is_some g c =
    let gone : c.match-ending.self.state
    ≡ without c.args.self.now.state (option_map name_of_cell c.args.ending) = grind arith in
    gone ∙ value_closes _ _ c.requires.linked _ c.requires.ending
    (has_target name_of_cell c.args.target c.requires.target
    (sym c.is_some.ensures ∙ c.if-is_some.false))

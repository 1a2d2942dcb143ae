use Rattle.store_slots.proofs.{all, arith, at_drop_all, CellName, cells_of, first_hindered, is_named, length}
use Rattle.store_slots.proofs.{length-map, lives, name_of_cell, nat_tests, None, passed, Some, stopped, sym}
use Rattle.store_slots.proofs.{take_away, true, ◌∙◌, ◌≡◌, ◌≤◌}
use Rattle.std.proofs.Common.{map as list_map}
use Rattle.store_slots.proofs.blocking_borrow.find_blocking_value.Goals as goal

abbrev none : CellName
none = record { slot = 0; generation = 0 }

pub loop-name-preserved-in_default : goal.loop-name-preserved-in_default
loop-name-preserved-in_default g c = (
  passed _ _ _ _ none c.loop-name-test.true None (rw c.in_default.is at c.borrowed_value.ensures) tt
      ∙ c.loop-name.invariant.0,
  c.loop-name.invariant.1,
)

pub loop-name-preserved-then-eq : goal.loop-name-preserved-then-eq
loop-name-preserved-then-eq g c =
    let slots = c.args.entries.now.slots in
    let named = is_named (take_away (cells_of slots) (list_map name_of_cell c.args.names.now)) in
    let spared : lives slots named (name_of_cell c.in-Some.value) ≡ true =
    grind (arith, nat_tests) in (
      passed _ _ _ _ none c.loop-name-test.true (Some _)
          (rw c.in-Some.is at c.borrowed_value.ensures) spared
          ∙ c.loop-name.invariant.0,
      c.loop-name.invariant.1,
    )

pub returns-then-not-lives_on-clause-hindrance : goal.returns-then-not-lives_on-clause-hindrance
returns-then-not-lives_on-clause-hindrance g c = grind (arith, first_hindered, stopped)

pub loop-name-preserved : goal.loop-name-preserved
loop-name-preserved g c =
    let spared = sym c.lives_on.ensures ∙ c.if-not-lives_on.false in (
      passed _ _ _ _ none c.loop-name-test.true (Some _)
          (rw c.in-Some.is at c.borrowed_value.ensures) spared
          ∙ c.loop-name.invariant.0,
      spared,
    )

pub returns-clause-hindrance : goal.returns-clause-hindrance
returns-clause-hindrance g c =
    let past : length (list_map name_of_cell c.args.names.now) ≤ c.loop-name.name-index =
    omega (arith, length-map c.args.names.now name_of_cell, c.loop-name-test.false) in
    first_hindered _ _ c.requires.linked
    ∙ (sym c.loop-name.invariant.0 ∙ at_drop_all (all _ _) _ _ past)

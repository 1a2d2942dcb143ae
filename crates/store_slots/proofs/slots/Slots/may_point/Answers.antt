use Rattle.store_slots.proofs.{arith, name_of_cell, name_test, nat_tests, target_told, turn_free}
use Rattle.store_slots.proofs.slots.Slots.may_point.Goals as goal

pub returns-in_default : goal.returns-in_default
returns-in_default g c a b at =
    let told = target_told _ c.self.view_is (name_of_cell c.args.name) c.in_default.ensures in
    grind arith

pub returns-then-eq : goal.returns-then-eq
returns-then-eq g c a b at =
    let told = target_told _ c.self.view_is (name_of_cell c.args.name) c.in-Some.ensures in
    grind (arith, nat_tests, name_test)

pub may_lose-requires-clause-target : goal.may_lose-requires-clause-target
may_lose-requires-clause-target g c = target_told _ c.self.view_is _ c.in-Some.ensures

pub returns : goal.returns
returns g c a b at =
    let n = name_of_cell c.args.name in
    let told = target_told _ c.self.view_is n c.in-Some.ensures in
    grind (arith, nat_tests, name_test, turn_free c.args.self.now.state n)

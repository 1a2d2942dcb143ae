use Rattle.std.proofs.lemmas.Fn.{says_at}
use Rattle.entity_table.proofs.{components_empty, components_failed, components_passed, its_slot, row_at, sym}
use Rattle.entity_table.proofs.components.ComponentTable.sift_slot.Goals as goal

pub returns-in_default-clause-sifted : goal.returns-in_default-clause-sifted
returns-in_default-clause-sifted g c first s =
    rw (← c.self.view_is) (components_empty (rw (← c.self.view_is) at s) c.in_default.ensures)

pub returns-then-not-test-clause-sifted : goal.returns-then-not-test-clause-sifted
returns-then-not-test-clause-sifted g c first s =
    components_failed (rw (← c.self.view_is) at s) c.in-Some.entity c.in-Some-get.component.now (sym c.in-Some-get.ensures)
    (its_slot _ _ (row_at c.self.inside.map.rows c.args.slot) _ c.in-Some.ensures)
    (says_at g.F.Fn c.test.ensures c.if-not-test.true) c.remove.ensures.gone (rw (← c.self.view_is) at c.remove.ensures.others)

pub returns-else-not-test-clause-sifted : goal.returns-else-not-test-clause-sifted
returns-else-not-test-clause-sifted g c first s = rw (← c.self.view_is)
    (components_passed (rw (← c.self.view_is) at s) c.in-Some.entity c.in-Some-get.component.now (sym c.in-Some-get.ensures)
    (its_slot _ _ (row_at c.self.inside.map.rows c.args.slot) _ c.in-Some.ensures)
    (says_at g.F.Fn c.test.ensures c.if-not-test.false))

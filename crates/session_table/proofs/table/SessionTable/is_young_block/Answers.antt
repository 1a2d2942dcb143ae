use Rattle.session_table.proofs.{arith, block_young, rows_young}
use Rattle.std.proofs.lemmas.Bool.{leb-true}
use Rattle.session_table.proofs.table.SessionTable.is_young_block.Goals as goal

pub returns-then-at-before-clause-young : goal.returns-then-at-before-clause-young
returns-then-at-before-clause-young g c = rw (← c.self.view_is) (λ passes. block_young c.self.inside.rows.entries
    c.self.invariant.1 c.args.row c.args.before (omega (arith, c.at.ensures, c.if-at-before.true)))

pub returns-clause-young : goal.returns-clause-young
returns-clause-young g c passes = rows_young c.self.inside.rows.entries c.args.row c.args.before c.least_use-least.result
    c.least_use-least.ensures (leb-true c.args.before c.least_use-least.result passes)

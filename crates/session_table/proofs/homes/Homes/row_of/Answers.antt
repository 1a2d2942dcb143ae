use Rattle.session_table.proofs.{arith, slice_get_within, sym, true≢false, up_to, ◌∙◌}
use Rattle.session_table.specs.Homes.{IsInRow}
use Rattle.session_table.proofs.homes.Homes.row_of.Goals as goal

pub loop-row-preserved : goal.loop-row-preserved
loop-row-preserved g c = up_to (λ r. IsInRow c.args.rows.now.entries r c.args.entry) c.loop-row.row c.loop-row.invariant
    (λ at. true≢false (sym (c.lists.ensures.1 at) ∙ c.if-lists.false))

pub returns-clause-none : goal.returns-clause-none
returns-clause-none g c row at = c.loop-row.invariant row (omega (
  arith,
  slice_get_within c.args.rows.now.entries row at.1.0 at.1.2,
  c.len-row-end.ensures.len,
  c.loop-row-test.false,
  c.loop-row.auto.row-end,
)) at

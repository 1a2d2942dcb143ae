use Rattle.session_table.proofs.{arith, index_within, sym, true≢false, up_to, ◌∙◌}
use Rattle.session_table.specs.Homes.{IsEntryAt}
use Rattle.session_table.proofs.homes.lists.Goals as goal

pub loop-index-preserved : goal.loop-index-preserved
loop-index-preserved g c = up_to (λ i. IsEntryAt c.args.rows.now.entries c.args.row i c.args.entry) c.loop-index.index c.loop-index.invariant
    (λ at. true≢false (sym (c.is_at.ensures.1 at) ∙ c.if-is_at.false))

pub returns : goal.returns
returns g c = (
  λ never. absurd (true≢false (sym never)),
  λ at. absurd (c.loop-index.invariant at.0 (omega (
    arith,
    index_within c.args.rows.now.entries c.args.row at.0 c.args.entry (c.in-Some.field-0-0.now, c.in-Some.session.now)
        (sym c.in-Some.ensures.entry) at.1,
    c.len-index-end.ensures.len,
    c.loop-index-test.false,
    c.loop-index.auto.index-end,
  )) at.1),
)

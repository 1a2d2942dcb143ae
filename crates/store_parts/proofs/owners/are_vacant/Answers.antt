use Rattle.store_parts.proofs.{arith, not_empty, owners_vacant, refl, slice_get, slice_get_read, Some}
use Rattle.store_parts.proofs.{sym, vacant_through, ◌∙◌, ◌≡◌}
use Rattle.store_parts.proofs.owners.are_vacant.Goals as goal
use Rattle.store_parts.proofs.owners.are_vacant.Goals.{After-is_some}

there : (c : After-is_some)
    → slice_get c.args.records.now c.loop-position.position-index ≡ Some c.position-item.result
there c = slice_get_read c.args.records.now _ _ _ refl c.loop-position-test.true c.position-item.is

pub loop-position-preserved : goal.loop-position-preserved
loop-position-preserved c = vacant_through c.args.records.now _ _ c.loop-position.invariant
    (there (goal.at.loop-position-preserved c).After-is_some)
    (sym c.is_some.ensures ∙ c.if-is_some.false)

pub returns-then-is_some : goal.returns-then-is_some
returns-then-is_some c = (
  λ t. absurd cc,
  λ empty. absurd (not_empty c.args.records.now _ _
      (there (goal.at.returns-then-is_some c).After-is_some)
      (sym c.is_some.ensures ∙ c.if-is_some.true) empty),
)

pub returns : goal.returns
returns c = (
  λ t. owners_vacant c.args.records.now (λ k h. c.loop-position.invariant k
      (omega (arith, c.loop-position-test.false))),
  λ e. refl,
)

use Rattle.std.proofs.Common.{◌∙◌}
use Rattle.example_saving.proofs.{rows_fit}
use Rattle.example_saving.proofs.tables.made_again.Goals as goal

-- the rows of the swept components fit, so that only memory may lack
pub returns-in-Err-clause-short : goal.returns-in-Err-clause-short
returns-in-Err-clause-short g c = c.in-Err.ensures.short
    (rows_fit c.args.table c.in-Ok-from_parts.table c.sweep.new.self c.in-Ok.rows.items
    (c.in-Ok-from_parts.ensures.state ∙ c.into_parts-2.ensures.state)
    c.sweep.ensures.gone c.in-Ok.ensures.each c.in-Ok.ensures.ordered)

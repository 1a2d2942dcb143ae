use Rattle.std.proofs.Common.{◌∙◌}
use Rattle.example_files.proofs.rows.rows_again.Goals as goal

pub returns-clause-rows : goal.returns-clause-rows
returns-clause-rows g c =
    let wrote = c.in_ok-bytes.ensures in
    (c.in_ok-both.ensures c.args.rows.now c.args.image.now wrote.0 wrote.2 wrote.1 (c.as_slice.ensures.value ∙ wrote.3)).0

pub returns-clause-image : goal.returns-clause-image
returns-clause-image g c =
    let wrote = c.in_ok-bytes.ensures in
    (c.in_ok-both.ensures c.args.rows.now c.args.image.now wrote.0 wrote.2 wrote.1 (c.as_slice.ensures.value ∙ wrote.3)).1

use Rattle.std.proofs.Common.{ap, ◌∙◌}
use Rattle.generational_errors.specs.Texts.{same_location}
use Rattle.location_list.proofs.Keys.{compared}
use Rattle.location_list.proofs.list.is_at.Goals as goal

pub returns-in-Some : goal.returns-in-Some
returns-in-Some c =
    let at = c.in-Some.ensures.lookup in
    compared c.args.kept.now c.args.number c.in-Some.key.now c.args.at c.is_same.result at.3.0 at.1
    (c.is_same.ensures ∙ ap (same_location c.args.at) c.location.ensures)

use Rattle.std.proofs.Common.{ap, map, ◌∙◌}
use Rattle.std.proofs.lemmas.Map.Made.{lookup-map_values}
use Rattle.std.specs.Map.{lookup}
use Rattle.std.specs.Prelude.{nat_eq}
use Rattle.example_saving.specs.Logins.{seen_in, told_row}
use Rattle.example_saving.proofs.sessions.sessions_again.Goals as goal

pub returns-in-Ok : goal.returns-in-Ok
returns-in-Ok g c all id =
    c.log_in_again.ensures all id ∙ (ap (λ rows. lookup (nat_eq id) (map told_row rows)) c.deref.ensures.value
    ∙ (ap (lookup (nat_eq id)) c.in-Ok.ensures
    ∙ lookup-map_values (seen_in c.args.table.now) (nat_eq id) c.args.table.now.sessions))

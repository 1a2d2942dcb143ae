use Rattle.std.proofs.Common.{◌∙◌}
use Rattle.example_saving.proofs.{other_begun}
use Rattle.example_saving.proofs.sessions.log_in.Goals as goal

pub returns-in-Ok-clause-others : goal.returns-in-Ok-clause-others
returns-in-Ok-clause-others g c other apart =
    let login = c.in-Ok.ensures in
    c.put_values.ensures.others other apart
    ∙ other_begun c.args.table.now c.login.new.self c.args.row.now.id c.args.row.now.used_at login.state login.opened
    login.others other apart

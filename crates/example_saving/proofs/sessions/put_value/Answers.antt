use Rattle.example_saving.proofs.{other_seen, own_after, put_seen}
use Rattle.example_saving.proofs.sessions.put_value.Goals as goal

pub returns-in-Ok-clause-own : goal.returns-in-Ok-clause-own
returns-in-Ok-clause-own g c =
    let put = c.in-Ok.ensures in
    own_after c.args.table.now c.put.new.self c.in-Ok.field-0 c.args.id c.args.key c.args.value
    put.kept put.others put.left c.requires.own put.put put.given

pub returns-in-Ok-clause-put : goal.returns-in-Ok-clause-put
returns-in-Ok-clause-put g c _ =
    let put = c.in-Ok.ensures in
    put_seen c.args.table.now c.put.new.self c.in-Ok.field-0 c.args.id c.args.key c.args.value
    put.kept put.others put.left c.requires.own put.shown

pub returns-in-Ok-clause-others : goal.returns-in-Ok-clause-others
returns-in-Ok-clause-others g c =
    let put = c.in-Ok.ensures in
    other_seen c.args.table.now c.put.new.self c.in-Ok.field-0 c.args.id c.args.key c.args.value
    put.kept put.others put.left c.requires.own

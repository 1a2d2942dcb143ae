use Rattle.entity_table.proofs.{rows_tell}
use Rattle.entity_table.proofs.table.EntityTable.from_parts.Goals as goal

pub returns-in-Ok-clause-here : goal.returns-in-Ok-clause-here
returns-in-Ok-clause-here g c row e b is found = rows_tell c.in-Ok.ensures.kept c.live_rows.new.sites.all
    c.in-Ok.ensures.sited c.tell_all.new.self c.tell_all.ensures.all c.tell_all.ensures.told row e b is found

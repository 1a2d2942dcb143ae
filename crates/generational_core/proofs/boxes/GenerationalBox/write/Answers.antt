use Rattle.generational_core.proofs.machine.{write_refused_by}
use Rattle.generational_core.proofs.boxes.GenerationalBox.write.Goals as goal

pub returns-in-Err-Store-clause-cause : goal.returns-in-Err-Store-clause-cause
returns-in-Err-Store-clause-cause g c =
    write_refused_by _ _ c.args.self.raw c.args.location c.in-Err-Store.cause c.requires
    (rw (c.in-Err-Store.is, c.in-Err-Store.field-0-is) at c.try_write.ensures)

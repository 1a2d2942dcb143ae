use Rattle.generational_core.proofs.machine.Calls.{opens_value, reader_kept, reader_leaves}
use Rattle.generational_core.proofs.machine.Calls.{reader_opens, reader_sees, writer_kept}
use Rattle.generational_core.proofs.machine.Calls.{writer_returns}
use Rattle.generational_laws.proofs.caller_laws.guards_stay_known.Goals as goal

pub returns : goal.returns
returns g c = record {
  reader = reader_kept;
  writer = writer_kept;
  same = reader_sees;
  opens = reader_opens;
  read = λ S R. opens_value;
  released = λ S R. reader_leaves;
  returned = λ S R h v r known m. (writer_returns h v r known m).0;
}

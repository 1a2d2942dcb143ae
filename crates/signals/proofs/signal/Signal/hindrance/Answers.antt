use Rattle.generational_core.proofs.machine.Calls.{refused_write}
use Rattle.signals.proofs.Begun.{begun_free}
use Rattle.std.proofs.Common.{Err}
use Rattle.signals.proofs.signal.Signal.hindrance.Goals as goal

pub unreachable-requires : goal.unreachable-requires
unreachable-requires g c = cc (begun_free _ _ _ _ c.in-Ok.ensures)

pub returns-clause-unchanged : goal.returns-clause-unchanged
returns-clause-unchanged g c = refused_write _ (Err c.in-Err.refused) c.in-Err.ensures

use Rattle.std.proofs.Common.{length, ◌+◌, ◌/◌}
use Rattle.saved_bytes.specs.declared.file.TheConstants.{PIECE}
use Rattle.saved_bytes.proofs.Written.{AreWritten}
use Rattle.saved_bytes.proofs.file.write_slots.Given as goal

abbrev pub invariant-loop : goal.invariant-loop
invariant-loop g l =
    AreWritten g.T.Saved.form (length l.slots / PIECE + 1) l.counter l.slots l.rest (g.W.Write.contents l.fn.out) (g.W.Write.contents l.out)

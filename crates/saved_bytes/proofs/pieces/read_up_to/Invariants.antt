use Rattle.std.proofs.Common.{◌≤◌, length}
use Rattle.std.specs.Io.KnownBytes.{Consumes}
use Rattle.saved_bytes.proofs.pieces.read_up_to.Given as goal

abbrev pub invariant-loop : goal.invariant-loop
invariant-loop g l =
    Consumes (g.R.Read.remaining l.fn.input) (g.R.Read.remaining l.input) l.bytes.items × (length l.bytes.items ≤ l.len)

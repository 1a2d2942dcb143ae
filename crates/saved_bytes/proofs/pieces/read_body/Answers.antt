use Rattle.std.proofs.Common.{◌≡◌, ◌∙◌, List, ℕ, Option, subst, sym, ap, length, arith}
use Rattle.std.specs.Io.KnownBytes.{Consumes}
use Rattle.saved_bytes.specs.Files.{checksum}
use Rattle.saved_bytes.proofs.Written.{taken}
use Rattle.saved_bytes.proofs.pieces.read_body.Goals as goal

pub returns-in-Ok-clause-again : goal.returns-in-Ok-clause-again
returns-in-Ok-clause-again g c = λ inner rest len sum is.
    let read = c.in_ok-read_up_to.ensures in
    let new = g.R.Read.remaining c.read_up_to.new.input in
    let bytes = c.read_up_to.new.bytes.items in
    let consumed = subst (λ (o : Option (List ℕ)). Consumes o new bytes) is read.bytes in
    let got = taken inner rest new bytes consumed (omega arith) (λ below. read.ended (omega arith)) in
    (got, tt)

pub returns-in-Err-clause-again : goal.returns-in-Err-clause-again
returns-in-Err-clause-again g c = λ inner rest len sum is.
    let read = c.in_ok-read_up_to.ensures in
    let new = g.R.Read.remaining c.read_up_to.new.input in
    let bytes = c.read_up_to.new.bytes.items in
    let consumed = subst (λ (o : Option (List ℕ)). Consumes o new bytes) is read.bytes in
    let got = taken inner rest new bytes consumed (omega arith) (λ below. read.ended (omega arith)) in
    let same : c.as_slice.result.now ≡ inner = c.as_slice.ensures.value ∙ got.0 in
    let no = c.in-Err.ensures.again (len ∙ sym (ap length same)) (sum ∙ sym (ap (checksum c.args.header.version) same)) in
    absurd cc

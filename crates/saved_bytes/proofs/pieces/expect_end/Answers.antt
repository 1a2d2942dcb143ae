use Rattle.std.proofs.Common.{◌≡◌, ◌∙◌, [], List, ℕ, Option, subst, arith, length, ap, sym, true}
use Rattle.std.specs.Prelude.{◌==◌}
use Rattle.std.proofs.lemmas.Bool.{eqb-true}
use Rattle.std.specs.Io.KnownBytes.{Consumes}
use Rattle.saved_bytes.proofs.Taken.{nothing_taken}
use Rattle.saved_bytes.proofs.Written.{nothing_left}
use Rattle.saved_bytes.proofs.pieces.expect_end.Goals as goal

pub returns-then-is_empty-clause-only : goal.returns-then-is_empty-clause-only
returns-then-is_empty-clause-only g c =
    let read = c.in_ok-read_up_to.ensures in
    let old = g.R.Read.remaining c.args.input.now in
    let new = g.R.Read.remaining c.read_up_to.new.input in
    let yes : (length c.as_slice.result.now == 0) ≡ true = sym c.is_empty.ensures ∙ c.if-is_empty.true in
    let zero = eqb-true (length c.as_slice.result.now) 0 yes in
    let empty = nothing_left c.as_slice.result.now (omega (arith, zero)) in
    let none : c.read_up_to.new.bytes.items ≡ [] = sym c.as_slice.ensures.value ∙ empty in
    let long = ap length none in
    (subst (λ (l : List ℕ). Consumes old new l) none read.bytes, read.ended (omega arith))

pub returns-clause-again : goal.returns-clause-again
returns-clause-again g c = λ is.
    let read = c.in_ok-read_up_to.ensures in
    let new = g.R.Read.remaining c.read_up_to.new.input in
    let bytes = c.read_up_to.new.bytes.items in
    let none = nothing_taken new bytes (subst (λ (o : Option (List ℕ)). Consumes o new bytes) is read.bytes) in
    let yes = rw (c.as_slice.ensures.value ∙ none) at c.is_empty.ensures in
    absurd cc

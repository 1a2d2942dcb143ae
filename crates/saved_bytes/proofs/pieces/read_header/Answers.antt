use Rattle.std.proofs.Common.{◌∙◌, List, ℕ, subst, sym}
use Rattle.std.specs.Io.KnownBytes.{Consumes}
use Rattle.saved_bytes.proofs.Taken.{header_only, header_taken}
use Rattle.saved_bytes.proofs.pieces.read_header.Goals as goal

pub returns-in-Ok-clause-again : goal.returns-in-Ok-clause-again
returns-in-Ok-clause-again g c = λ version inner rest fits is.
    let read = c.in_ok-read_up_to.ensures in
    let new = g.R.Read.remaining c.read_up_to.new.input in
    let got = header_taken version inner rest (g.R.Read.remaining c.args.input.now) new c.read_up_to.new.bytes.items is read.bytes read.most read.ended in
    (((c.in-Ok.ensures.again version inner fits (c.as_slice.ensures.value ∙ got.0)).0, got.1), tt)

pub returns-in-Err-clause-again : goal.returns-in-Err-clause-again
returns-in-Err-clause-again g c = λ version inner rest fits is.
    let read = c.in_ok-read_up_to.ensures in
    let new = g.R.Read.remaining c.read_up_to.new.input in
    let got = header_taken version inner rest (g.R.Read.remaining c.args.input.now) new c.read_up_to.new.bytes.items is read.bytes read.most read.ended in
    (tt, (c.in-Err.ensures.again version inner fits (c.as_slice.ensures.value ∙ got.0)).1)

pub returns-in-Ok-clause-only : goal.returns-in-Ok-clause-only
returns-in-Ok-clause-only g c =
    let read = c.in_ok-read_up_to.ensures in
    let old = g.R.Read.remaining c.args.input.now in
    let new = g.R.Read.remaining c.read_up_to.new.input in
    let only = c.in-Ok.ensures.only in
    subst (λ (l : List ℕ). Consumes old new l)
    (header_only c.in-Ok.header c.read_up_to.new.bytes.items only.0 (sym c.as_slice.ensures.value ∙ only.1) read.most) read.bytes

use Rattle.std.proofs.Common.{◌≡◌, ◌∙◌, ◌++◌, List, ℕ, Some, sym, ap}
use Rattle.std.proofs.lemmas.Result.{err_from_is_err_and, on_ok_weaker}
use Rattle.saved_bytes.specs.Files.{header}
use Rattle.saved_bytes.specs.declared.pieces.TheConstants.{VERSION}
use Rattle.saved_bytes.proofs.Taken.{piece_consumed}
use Rattle.saved_bytes.proofs.Written.{spell_append}
use Rattle.saved_bytes.proofs.pieces.read_piece.Goals as goal

pub returns-clause-again : goal.returns-clause-again
returns-clause-again g c = λ inner rest fits is.
    let known = is ∙ ap (λ (l : List ℕ). Some l) (sym (spell_append (header VERSION inner) inner rest)) in
    let begun = (c.in_ok-header.ensures.again VERSION inner (inner ++ rest) fits known).0 in
    c.read_body.ensures.again inner rest begun.0.len begun.0.sum begun.1

pub returns-clause-only : goal.returns-clause-only
returns-clause-only g c =
    let old = g.R.Read.remaining c.args.input.now in
    let mid = g.R.Read.remaining c.read_header.new.input in
    let new = g.R.Read.remaining c.read_body.new.input in
    let h = c.in_ok-header.header in
    let version : h.version ≡ VERSION = cc in
    on_ok_weaker c.read_body.result
    (λ read. piece_consumed h old mid new c.read_body.new.bytes.items c.in_ok-header.ensures.only read.0 version read.1 read.2) c.read_body.ensures.only

pub returns-in_err-header-clause-again : goal.returns-in_err-header-clause-again
returns-in_err-header-clause-again g c = λ inner rest fits is.
    let p = err_from_is_err_and c.from_residual.result c.from_residual.ensures.1 in
    let known = is ∙ ap (λ (l : List ℕ). Some l) (sym (spell_append (header VERSION inner) inner rest)) in
    rw (p.1, p.2) (tt, (c.in_err-header.ensures.again VERSION inner (inner ++ rest) fits known).1)

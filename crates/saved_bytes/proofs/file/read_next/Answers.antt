use Rattle.std.proofs.Common.{◌∙◌, ◌++◌, [], List, ℕ, Some, ap}
use Rattle.std.proofs.lemmas.Result.{err_from_is_err_and}
use Rattle.saved_bytes.specs.Forms.{spell}
use Rattle.saved_bytes.specs.Images.{named_slots_form}
use Rattle.saved_bytes.proofs.file.read_next.Goals as goal

pub returns-in-Ok-clause-again : goal.returns-in-Ok-clause-again
returns-in-Ok-clause-again g c = λ slots first rest long piece is.
    let inner = spell (named_slots_form piece.names g.T.Saved.form slots) [] in
    let known = is ∙ ap (λ (l : List ℕ). Some (l ++ rest)) piece.bytes in
    let read = (c.in_ok-read_piece.ensures.again inner rest piece.header_fits known).0 in
    let all = c.in-Ok.ensures piece.names slots (long, piece.named) piece.fits (c.as_slice.ensures.value ∙ read.0) in
    ((all.0, read.1), tt)

pub returns-in-Err-clause-again : goal.returns-in-Err-clause-again
returns-in-Err-clause-again g c = λ slots first rest long piece is.
    let inner = spell (named_slots_form piece.names g.T.Saved.form slots) [] in
    let known = is ∙ ap (λ (l : List ℕ). Some (l ++ rest)) piece.bytes in
    let read = (c.in_ok-read_piece.ensures.again inner rest piece.header_fits known).0 in
    let all = c.in-Err.ensures piece.names slots (long, piece.named) piece.fits (c.as_slice.ensures.value ∙ read.0) in
    (tt, all.1)

pub returns-in-Ok-clause-only : goal.returns-in-Ok-clause-only
returns-in-Ok-clause-only g c = (c.read_piece.new.bytes.items, c.in_ok-read_piece.ensures.only)

pub returns-in_err-read_piece-clause-again : goal.returns-in_err-read_piece-clause-again
returns-in_err-read_piece-clause-again g c = λ slots first rest long piece is.
    let p = err_from_is_err_and c.from_residual.result c.from_residual.ensures.1 in
    let inner = spell (named_slots_form piece.names g.T.Saved.form slots) [] in
    let known = is ∙ ap (λ (l : List ℕ). Some (l ++ rest)) piece.bytes in
    rw (p.1, p.2) (tt, (c.in_err-read_piece.ensures.again inner rest piece.header_fits known).1)

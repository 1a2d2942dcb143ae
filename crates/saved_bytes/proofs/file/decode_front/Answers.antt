use Rattle.std.proofs.Common.{◌≡◌, ◌∙◌, []}
use Rattle.std.proofs.lemmas.Result.{err_from_is_err_and}
use Rattle.saved_bytes.specs.Forms.{unread}
use Rattle.saved_bytes.proofs.file.decode_front.Goals as goal

pub returns-in_err-front : goal.returns-in_err-front
returns-in_err-front c = λ image fits is.
    let p = err_from_is_err_and c.from_residual.result c.from_residual.ensures.1 in
    rw (p.1, p.2) (tt, c.in_err-front.ensures.again image [] fits (c.at-input.ensures ∙ is))

pub returns-then-is_empty : goal.returns-then-is_empty
returns-then-is_empty c = λ image fits is.
    ((c.in_ok-front.ensures.again image [] fits (c.at-input.ensures ∙ is)).0, tt)

pub returns-else-is_empty : goal.returns-else-is_empty
returns-else-is_empty c = λ image fits is.
    let all : unread c.decode.new.input ≡ [] = (c.in_ok-front.ensures.again image [] fits (c.at-input.ensures ∙ is)).1 in
    let yes = rw all at c.is_empty.ensures in
    absurd cc

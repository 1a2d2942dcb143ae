use Rattle.std.proofs.Common.{◌≡◌, ◌∙◌, []}
use Rattle.std.proofs.lemmas.Result.{err_from_is_err_and}
use Rattle.saved_bytes.specs.Forms.{unread}
use Rattle.saved_bytes.proofs.file.decode_whole.Goals as goal

pub returns-in_err-check-clause-again : goal.returns-in_err-check-clause-again
returns-in_err-check-clause-again g c = λ names image named fits head is.
    let no = c.in_err-check.ensures.again head.len head.sum in
    absurd cc

pub returns-in_err-image-clause-again : goal.returns-in_err-image-clause-again
returns-in_err-image-clause-again g c = λ names image named fits head is.
    let p = err_from_is_err_and c.from_residual-in_err-image.result c.from_residual-in_err-image.ensures.1 in
    rw (p.1, p.2) (tt, c.in_err-image.ensures names image [] named fits (c.at-input.ensures ∙ is))

pub returns-then-is_empty-clause-again : goal.returns-then-is_empty-clause-again
returns-then-is_empty-clause-again g c = λ names image named fits head is.
    ((c.in_ok-image.ensures names image [] named fits (c.at-input.ensures ∙ is)).0, tt)

pub returns-else-is_empty-clause-again : goal.returns-else-is_empty-clause-again
returns-else-is_empty-clause-again g c = λ names image named fits head is.
    let all : unread c.decode_image.new.input ≡ [] = (c.in_ok-image.ensures names image [] named fits (c.at-input.ensures ∙ is)).1 in
    let yes = rw all at c.is_empty.ensures in
    absurd cc

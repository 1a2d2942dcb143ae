use Rattle.std.proofs.Common.{◌≡◌, ◌∙◌, []}
use Rattle.std.proofs.lemmas.Result.{err_from_is_err_and}
use Rattle.saved_bytes.specs.Forms.{unread}
use Rattle.saved_bytes.proofs.file.decode_piece.Goals as goal

pub returns-in_err-slots : goal.returns-in_err-slots
returns-in_err-slots g c = λ names slots named fits is.
    let p = err_from_is_err_and c.from_residual.result c.from_residual.ensures.1 in
    rw (p.1, p.2) (tt, c.in_err-slots.ensures names slots [] named fits (c.at-input.ensures ∙ is))

pub returns-then-is_empty : goal.returns-then-is_empty
returns-then-is_empty g c = λ names slots named fits is.
    ((c.in_ok-slots.ensures names slots [] named fits (c.at-input.ensures ∙ is)).0, tt)

pub returns-else-is_empty : goal.returns-else-is_empty
returns-else-is_empty g c = λ names slots named fits is.
    let all : unread c.decode_named_slots.new.input ≡ [] = (c.in_ok-slots.ensures names slots [] named fits (c.at-input.ensures ∙ is)).1 in
    let yes = rw all at c.is_empty.ensures in
    absurd cc

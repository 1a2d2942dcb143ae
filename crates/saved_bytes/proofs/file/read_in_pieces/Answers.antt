use Rattle.std.proofs.Common.{◌≡◌, ◌∙◌, ◌+◌, ◌/◌, [], ℕ, subst, length}
use Rattle.std.proofs.lemmas.Result.{err_from_is_err_and}
use Rattle.saved_bytes.specs.Files.{ArePieces}
use Rattle.saved_bytes.specs.Forms.{spell}
use Rattle.saved_bytes.specs.Images.{front_form}
use Rattle.saved_bytes.specs.declared.file.TheConstants.{PIECE}
use Rattle.saved_bytes.proofs.Taken.{body_then_pieces}
use Rattle.saved_bytes.proofs.file.read_in_pieces.Goals as goal

pub returns-in_err-read_body-clause-again : goal.returns-in_err-read_body-clause-again
returns-in_err-read_body-clause-again g c = λ image bytes fits head are is.
    let p = err_from_is_err_and c.from_residual.result c.from_residual.ensures.1 in
    rw (p.1, p.2) (tt, (c.in_err-read_body.ensures.again (spell (front_form image) []) bytes head.len head.sum is).1)

pub returns-in-Err-clause-again : goal.returns-in-Err-clause-again
returns-in-Err-clause-again g c = λ image bytes fits head are is.
    let read = (c.in_ok-read_body.ensures.again (spell (front_form image) []) bytes head.len head.sum is).0 in
    (tt, (c.in-Err.ensures ((image.number, (image.start, (image.next, image.peak))), length image.slots.items) fits (c.as_slice.ensures.value ∙ read.0)).1)

pub returns-in_err-slots-clause-again : goal.returns-in_err-slots-clause-again
returns-in_err-slots-clause-again g c = λ image bytes fits head are is.
    let read = (c.in_ok-read_body.ensures.again (spell (front_form image) []) bytes head.len head.sum is).0 in
    let front = (c.in-Ok.ensures ((image.number, (image.start, (image.next, image.peak))), length image.slots.items) fits (c.as_slice.ensures.value ∙ read.0)).0 in
    let long : length image.slots.items ≡ c.in-Ok.front.1 = cc in
    let p = err_from_is_err_and c.from_residual-in_err-slots.result c.from_residual-in_err-slots.ensures.1 in
    rw (p.1, p.2) (
      tt,
      (c.in_err-slots.ensures.again image.slots.items bytes long
          (subst (λ (n : ℕ). ArePieces g.T.Saved.form (n / PIECE + 1) image.slots.items bytes) long are) read.1).1,
    )

pub returns-clause-again : goal.returns-clause-again
returns-clause-again g c = λ image bytes fits head are is.
    let read = (c.in_ok-read_body.ensures.again (spell (front_form image) []) bytes head.len head.sum is).0 in
    let front = (c.in-Ok.ensures ((image.number, (image.start, (image.next, image.peak))), length image.slots.items) fits (c.as_slice.ensures.value ∙ read.0)).0 in
    let long : length image.slots.items ≡ c.in-Ok.front.1 = cc in
    let slots = (c.in_ok-slots.ensures.again image.slots.items bytes long
    (subst (λ (n : ℕ). ArePieces g.T.Saved.form (n / PIECE + 1) image.slots.items bytes) long are) read.1).0 in
    (record { number = cc; start = cc; next = cc; peak = cc; slots = slots }, tt)

pub returns-clause-only : goal.returns-clause-only
returns-clause-only g c =
    let body = c.in_ok-read_body.ensures.only in
    body_then_pieces c.args.header (g.R.Read.remaining c.args.input.now) (g.R.Read.remaining c.read_body.new.input) c.read_body.new.bytes.items
    body.0 body.1 body.2 c.in_ok-slots.ensures.only

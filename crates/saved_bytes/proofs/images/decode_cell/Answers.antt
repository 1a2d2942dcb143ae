use Rattle.std.proofs.lemmas.Result.{err_from_is_err_and}
use Rattle.saved_bytes.specs.Forms.{spell, unread}
use Rattle.saved_bytes.specs.Images.{saved_cell_fields, saved_cell_tag}
use Rattle.saved_bytes.proofs.Cells.{reference_refused, shared_read, shared_refused, value_read, value_refused}
use Rattle.saved_bytes.proofs.images.decode_cell.Goals as goal

pub returns-in_err-value-in-1 : goal.returns-in_err-value-in-1
returns-in_err-value-in-1 g c = λ x rest fits is.
    let form = g.T.Saved.form in
    let p = err_from_is_err_and c.from_residual-in_err-value-in-1.result c.from_residual-in_err-value-in-1.ensures.1 in
    let t = c.in_ok-take_u8.ensures.again (saved_cell_tag x) (spell (saved_cell_fields form x) rest) fits.0 is in
    rw (p.1, p.2) (value_refused form rest (unread c.take_u8.new.self) (unread c.decode.new.input) x c.in_err-value-in-1.field-0.0
    (rw c.in-1.is at t.0) fits.1 t.1 c.in_err-value-in-1.ensures.again)

pub returns-in_err-value-in-2 : goal.returns-in_err-value-in-2
returns-in_err-value-in-2 g c = λ x rest fits is.
    let form = g.T.Saved.form in
    let p = err_from_is_err_and c.from_residual-in_err-value-in-2.result c.from_residual-in_err-value-in-2.ensures.1 in
    let t = c.in_ok-take_u8.ensures.again (saved_cell_tag x) (spell (saved_cell_fields form x) rest) fits.0 is in
    rw (p.1, p.2) (shared_refused form rest (unread c.take_u8.new.self) (unread c.decode-in-2.new.input) x c.in_err-value-in-2.field-0.0
    (rw c.in-2.is at t.0) fits.1 t.1 c.in_err-value-in-2.ensures.again)

pub returns-in_err-reference-in-3 : goal.returns-in_err-reference-in-3
returns-in_err-reference-in-3 g c = λ x rest fits is.
    let form = g.T.Saved.form in
    let p = err_from_is_err_and c.from_residual-in_err-reference-in-3.result c.from_residual-in_err-reference-in-3.ensures.1 in
    let t = c.in_ok-take_u8.ensures.again (saved_cell_tag x) (spell (saved_cell_fields form x) rest) fits.0 is in
    rw (p.1, p.2) (reference_refused form rest (unread c.take_u8.new.self) (unread c.decode-in-3.new.input) x c.in_err-reference-in-3.field-0.0
    (rw c.in-3.is at t.0) fits.1 t.1 c.in_err-reference-in-3.ensures.again)

pub returns-in_ok-value-in-1 : goal.returns-in_ok-value-in-1
returns-in_ok-value-in-1 g c = λ x rest fits is.
    let form = g.T.Saved.form in
    let t = c.in_ok-take_u8.ensures.again (saved_cell_tag x) (spell (saved_cell_fields form x) rest) fits.0 is in
    value_read form rest (unread c.take_u8.new.self) (unread c.decode.new.input) x c.in_ok-value-in-1.value
    (rw c.in-1.is at t.0) fits.1 t.1 c.in_ok-value-in-1.ensures.again

pub returns-in_ok-value-in-2 : goal.returns-in_ok-value-in-2
returns-in_ok-value-in-2 g c = λ x rest fits is.
    let form = g.T.Saved.form in
    let t = c.in_ok-take_u8.ensures.again (saved_cell_tag x) (spell (saved_cell_fields form x) rest) fits.0 is in
    shared_read form rest (unread c.take_u8.new.self) (unread c.decode-in-2.new.input) x c.in_ok-value-in-2.value
    (rw c.in-2.is at t.0) fits.1 t.1 c.in_ok-value-in-2.ensures.again

use Rattle.std.proofs.Common.{◌∙◌, subst, sym, ap}
use Rattle.std.proofs.lemmas.Result.{err_from_is_err_and}
use Rattle.saved_bytes.specs.Forms.{Form, IsForm, spell}
use Rattle.saved_bytes.specs.Images.{cell_form}
use Rattle.saved_bytes.proofs.Cells.{saved_of, saved_same}
use Rattle.saved_bytes.proofs.images.decode_slot.Goals as goal

pub returns-in_err-saved : goal.returns-in_err-saved
returns-in_err-saved g c = λ files names pairs x rest named fits is.
    let form = g.T.Saved.form in
    let same = saved_same names form x.cell in
    let p = err_from_is_err_and c.from_residual-in_err-saved.result c.from_residual-in_err-saved.ensures.1 in
    let first = c.in_ok-generation.ensures.again x.generation (spell (cell_form names form x.cell) rest) fits.0 is in
    rw (p.1, p.2) (c.in_err-saved.ensures (saved_of names x.cell) rest (subst IsForm (sym same) fits.1)
    (first.1 ∙ ap (λ (f : Form). spell f rest) (sym same)))

pub returns-in-Some : goal.returns-in-Some
returns-in-Some g c = λ files names pairs x rest named fits is.
    let form = g.T.Saved.form in
    let same = saved_same names form x.cell in
    let first = c.in_ok-generation.ensures.again x.generation (spell (cell_form names form x.cell) rest) fits.0 is in
    let second = c.in_ok-saved.ensures (saved_of names x.cell) rest (subst IsForm (sym same) fits.1)
    (first.1 ∙ ap (λ (f : Form). spell f rest) (sym same)) in
    ((cc, c.in-Some.ensures form files names x.cell pairs named (second.0 ∙ same)), second.1)

pub returns-in-None : goal.returns-in-None
returns-in-None g c = λ files names pairs x rest named fits is.
    let form = g.T.Saved.form in
    let same = saved_same names form x.cell in
    let first = c.in_ok-generation.ensures.again x.generation (spell (cell_form names form x.cell) rest) fits.0 is in
    let second = c.in_ok-saved.ensures (saved_of names x.cell) rest (subst IsForm (sym same) fits.1)
    (first.1 ∙ ap (λ (f : Form). spell f rest) (sym same)) in
    absurd (c.in-None.ensures form files names x.cell pairs named (second.0 ∙ same))

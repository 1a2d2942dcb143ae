use Rattle.std.proofs.Common.{◌≡◌, ℕ, List, Option, sym, subst, length}
use Rattle.std.specs.Borrow.{Bor}
use Rattle.std.proofs.lemmas.Result.{err_from_is_err_and}
use Rattle.saved_bytes.specs.Forms.{items_form, list_form, spell}
use Rattle.saved_bytes.specs.Images.{numbers_form, slot_form}
use Rattle.saved_bytes.specs.FileNames.{IsFound}
use Rattle.saved_bytes.specs.Reading.{ArePairwise}
use Rattle.saved_bytes.proofs.images.decode_image.Goals as goal

pub returns-in_err-numbers : goal.returns-in_err-numbers
returns-in_err-numbers g c = λ names x rest named fits is.
    let form = slot_form names g.T.Saved.form in
    let slots = spell (list_form form x.slots.items) rest in
    let p = err_from_is_err_and c.from_residual-in_err-numbers.result c.from_residual-in_err-numbers.ensures.1 in
    let a = c.in_ok-found_files.ensures names (spell (numbers_form x) slots) tt fits.0 is in
    rw (p.1, p.2) (c.in_err-numbers.ensures.again (x.number, (x.start, (x.next, x.peak))) slots fits.1.0 a.1)

pub returns-in_err-count : goal.returns-in_err-count
returns-in_err-count g c = λ names x rest named fits is.
    let form = slot_form names g.T.Saved.form in
    let slots = spell (list_form form x.slots.items) rest in
    let p = err_from_is_err_and c.from_residual-in_err-count.result c.from_residual-in_err-count.ensures.1 in
    let a = c.in_ok-found_files.ensures names (spell (numbers_form x) slots) tt fits.0 is in
    let b = c.in_ok-numbers.ensures.again (x.number, (x.start, (x.next, x.peak))) slots fits.1.0 a.1 in
    rw (p.1, p.2) (c.in_err-count.ensures.again (length x.slots.items) (spell (items_form form x.slots.items) rest) fits.1.1.0 b.1)

pub returns-in_err-slots : goal.returns-in_err-slots
returns-in_err-slots g c = λ names x rest named fits is.
    let form = slot_form names g.T.Saved.form in
    let slots = spell (list_form form x.slots.items) rest in
    let p = err_from_is_err_and c.from_residual-in_err-slots.result c.from_residual-in_err-slots.ensures.1 in
    let a = c.in_ok-found_files.ensures names (spell (numbers_form x) slots) tt fits.0 is in
    let b = c.in_ok-numbers.ensures.again (x.number, (x.start, (x.next, x.peak))) slots fits.1.0 a.1 in
    let d = c.in_ok-count.ensures.again (length x.slots.items) (spell (items_form form x.slots.items) rest) fits.1.1.0 b.1 in
    let long : length x.slots.items ≡ c.in_ok-count.count = cc in
    let pairs = subst (λ (ps : List (Option (Bor (List ℕ)))). ArePairwise (IsFound c.args.files.now) names ps) (sym c.as_slice.ensures.value) a.0 in
    rw (p.1, p.2) (c.in_err-slots.ensures c.args.files.now names pairs x.slots.items rest long named fits.1.1.1 d.1)

pub returns : goal.returns
returns g c = λ names x rest named fits is.
    let form = slot_form names g.T.Saved.form in
    let slots = spell (list_form form x.slots.items) rest in
    let a = c.in_ok-found_files.ensures names (spell (numbers_form x) slots) tt fits.0 is in
    let b = c.in_ok-numbers.ensures.again (x.number, (x.start, (x.next, x.peak))) slots fits.1.0 a.1 in
    let d = c.in_ok-count.ensures.again (length x.slots.items) (spell (items_form form x.slots.items) rest) fits.1.1.0 b.1 in
    let long : length x.slots.items ≡ c.in_ok-count.count = cc in
    let pairs = subst (λ (ps : List (Option (Bor (List ℕ)))). ArePairwise (IsFound c.args.files.now) names ps) (sym c.as_slice.ensures.value) a.0 in
    let e = c.in_ok-slots.ensures c.args.files.now names pairs x.slots.items rest long named fits.1.1.1 d.1 in
    (record { number = cc; start = cc; next = cc; peak = cc; slots = e.0 }, e.1)

use Rattle.std.proofs.Common.{◌≡◌, ◌∙◌, ◌++◌, [], List, ℕ, ap, sym, subst, length}
use Rattle.std.proofs.lemmas.Result.{err_from_is_err_and}
use Rattle.saved_bytes.specs.Files.{checksum, IsHeaderOf}
use Rattle.saved_bytes.specs.Forms.{spell}
use Rattle.saved_bytes.specs.Images.{image_form}
use Rattle.saved_bytes.specs.declared.file.TheConstants.{WHOLE}
use Rattle.saved_bytes.proofs.Taken.{some_into, some_same}
use Rattle.saved_bytes.proofs.file.read_whole.Goals as goal

pub returns-in_err-read_to_end-clause-again : goal.returns-in_err-read_to_end-clause-again
returns-in_err-read_to_end-clause-again g c = λ names image named fits head known.
    let p = err_from_is_err_and c.from_residual.result c.from_residual.ensures.1 in
    rw p.1 (tt, p.2)

pub returns-in-Ok-clause-again : goal.returns-in-Ok-clause-again
returns-in-Ok-clause-again g c = λ names image named fits head known.
    let inner = spell (image_form names g.T.Saved.form image) [] in
    let read = rw known at c.in_ok-read_to_end.ensures.bytes in
    let same : c.as_slice.result.now ≡ inner = c.as_slice.ensures.value ∙ (read ∙ ap (λ (l : List ℕ). l ++ inner) c.new-bytes.ensures.items) in
    let here = subst (λ (l : List ℕ). IsHeaderOf c.args.header WHOLE l) (sym same) head in
    ((c.in-Ok.ensures.again names image named fits here same).0, tt)

pub returns-clause-again : goal.returns-clause-again
returns-clause-again g c = λ names image named fits head known.
    let inner = spell (image_form names g.T.Saved.form image) [] in
    let read = rw known at c.in_ok-read_to_end.ensures.bytes in
    let same : c.as_slice.result.now ≡ inner = c.as_slice.ensures.value ∙ (read ∙ ap (λ (l : List ℕ). l ++ inner) c.new-bytes.ensures.items) in
    let here = subst (λ (l : List ℕ). IsHeaderOf c.args.header WHOLE l) (sym same) head in
    (tt, (c.in-Err.ensures.again names image named fits here same).1)

pub returns-in-Ok-clause-only : goal.returns-in-Ok-clause-only
returns-in-Ok-clause-only g c =
    let old = g.R.Read.remaining c.args.input.now in
    let bytes = c.as_slice.result.now in
    let from : (xs : List ℕ) → c.read_to_end.new.buf.items ≡ c.new-bytes.result.items ++ xs → bytes ≡ xs =
    λ xs is. c.as_slice.ensures.value ∙ (is ∙ ap (λ (l : List ℕ). l ++ xs) c.new-bytes.ensures.items) in
    some_same old bytes (λ l. (c.args.header.len ≡ length l) × (c.args.header.sum ≡ checksum c.args.header.version l))
    (some_into old (λ xs. c.read_to_end.new.buf.items ≡ c.new-bytes.result.items ++ xs) (λ xs. bytes ≡ xs) from c.in_ok-read_to_end.ensures.bytes)
    c.in-Ok.ensures.only

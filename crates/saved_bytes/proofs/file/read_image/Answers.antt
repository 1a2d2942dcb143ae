use Rattle.std.proofs.Common.{◌≡◌, ◌∙◌, ◌++◌, [], List, ℕ, Some, ap, arith, sym}
use Rattle.std.proofs.lemmas.Result.{err_from_is_err_and, on_ok_weaker}
use Rattle.saved_bytes.specs.Files.{header}
use Rattle.saved_bytes.specs.Forms.{spell}
use Rattle.saved_bytes.specs.Images.{front_form, image_form}
use Rattle.saved_bytes.specs.declared.file.TheConstants.{WHOLE}
use Rattle.saved_bytes.specs.declared.pieces.TheConstants.{VERSION}
use Rattle.saved_bytes.proofs.Taken.{file_in_pieces, whole_file}
use Rattle.saved_bytes.proofs.Written.{spell_append}
use Rattle.saved_bytes.proofs.file.read_image.Goals as goal

pub returns-in_err-header-clause-again : goal.returns-in_err-header-clause-again
returns-in_err-header-clause-again g c = λ image file is known.
    let inner = spell (front_form image) [] in
    let whole = known ∙ ap (λ (l : List ℕ). Some l) (is.bytes ∙ sym (spell_append (header VERSION inner) inner is.pieces)) in
    let p = err_from_is_err_and c.from_residual.result c.from_residual.ensures.1 in
    rw (p.1, p.2) (tt, (c.in_err-header.ensures.again VERSION inner (inner ++ is.pieces) is.header_fits whole).1)

pub returns-in_err-header-clause-earlier : goal.returns-in_err-header-clause-earlier
returns-in_err-header-clause-earlier g c = λ image file is known.
    let inner = spell (image_form is.names g.T.Saved.form image) [] in
    let whole = known ∙ ap (λ (l : List ℕ). Some l) is.bytes in
    let p = err_from_is_err_and c.from_residual.result c.from_residual.ensures.1 in
    rw (p.1, p.2) (tt, (c.in_err-header.ensures.again WHOLE inner inner is.header_fits whole).1)

pub returns-then-header-eq-WHOLE-clause-again : goal.returns-then-header-eq-WHOLE-clause-again
returns-then-header-eq-WHOLE-clause-again g c = λ image file is known.
    let inner = spell (front_form image) [] in
    let whole = known ∙ ap (λ (l : List ℕ). Some l) (is.bytes ∙ sym (spell_append (header VERSION inner) inner is.pieces)) in
    let begun = (c.in_ok-header.ensures.again VERSION inner (inner ++ is.pieces) is.header_fits whole).0 in
    let version = begun.0.version in
    absurd (omega arith)

pub returns-then-header-eq-WHOLE-clause-earlier : goal.returns-then-header-eq-WHOLE-clause-earlier
returns-then-header-eq-WHOLE-clause-earlier g c = λ image file is known.
    let inner = spell (image_form is.names g.T.Saved.form image) [] in
    let whole = known ∙ ap (λ (l : List ℕ). Some l) is.bytes in
    let begun = (c.in_ok-header.ensures.again WHOLE inner inner is.header_fits whole).0 in
    c.read_whole.ensures.again is.names image is.named is.fits begun.0 begun.1

pub returns-then-header-eq-WHOLE-clause-whole : goal.returns-then-header-eq-WHOLE-clause-whole
returns-then-header-eq-WHOLE-clause-whole g c =
    let h = c.in_ok-header.header in
    let version : h.version ≡ WHOLE = omega arith in
    on_ok_weaker c.read_whole.result (whole_file h (g.R.Read.remaining c.args.input.now) (g.R.Read.remaining c.read_header.new.input)
    c.in_ok-header.ensures.only version) c.read_whole.ensures.only

pub returns-then-header-eq-VERSION-clause-again : goal.returns-then-header-eq-VERSION-clause-again
returns-then-header-eq-VERSION-clause-again g c = λ image file is known.
    let inner = spell (front_form image) [] in
    let whole = known ∙ ap (λ (l : List ℕ). Some l) (is.bytes ∙ sym (spell_append (header VERSION inner) inner is.pieces)) in
    let begun = (c.in_ok-header.ensures.again VERSION inner (inner ++ is.pieces) is.header_fits whole).0 in
    c.read_in_pieces.ensures.again image is.pieces is.fits begun.0 is.are begun.1

pub returns-then-header-eq-VERSION-clause-earlier : goal.returns-then-header-eq-VERSION-clause-earlier
returns-then-header-eq-VERSION-clause-earlier g c = λ image file is known.
    let inner = spell (image_form is.names g.T.Saved.form image) [] in
    let whole = known ∙ ap (λ (l : List ℕ). Some l) is.bytes in
    let begun = (c.in_ok-header.ensures.again WHOLE inner inner is.header_fits whole).0 in
    let version = begun.0.version in
    absurd (omega arith)

pub returns-then-header-eq-VERSION-clause-whole : goal.returns-then-header-eq-VERSION-clause-whole
returns-then-header-eq-VERSION-clause-whole g c =
    let h = c.in_ok-header.header in
    let version : h.version ≡ VERSION = omega arith in
    on_ok_weaker c.read_in_pieces.result (file_in_pieces h (g.R.Read.remaining c.args.input.now) (g.R.Read.remaining c.read_header.new.input)
    c.in_ok-header.ensures.only version) c.read_in_pieces.ensures.only

pub returns-clause-again : goal.returns-clause-again
returns-clause-again g c = λ image file is known.
    let inner = spell (front_form image) [] in
    let whole = known ∙ ap (λ (l : List ℕ). Some l) (is.bytes ∙ sym (spell_append (header VERSION inner) inner is.pieces)) in
    let begun = (c.in_ok-header.ensures.again VERSION inner (inner ++ is.pieces) is.header_fits whole).0 in
    let version = begun.0.version in
    absurd (omega arith)

pub returns-clause-earlier : goal.returns-clause-earlier
returns-clause-earlier g c = λ image file is known.
    let inner = spell (image_form is.names g.T.Saved.form image) [] in
    let whole = known ∙ ap (λ (l : List ℕ). Some l) is.bytes in
    let begun = (c.in_ok-header.ensures.again WHOLE inner inner is.header_fits whole).0 in
    let version = begun.0.version in
    absurd (omega arith)

use Rattle.std.proofs.Common.{arith, ◌∷◌, [], length-append, refl}
use Rattle.std.proofs.lemmas.Result.{err_from_is_err_and}
use Rattle.saved_bytes.specs.Forms.Form.{Text}
use Rattle.saved_bytes.specs.Forms.{unread}
use Rattle.saved_bytes.specs.FileNames.{IsFound, IsAnyName}
use Rattle.saved_bytes.proofs.Files.{found_is}
use Rattle.saved_bytes.proofs.Items.{all_read, none_read, one_more, one_refused}
use Rattle.saved_bytes.proofs.file_names.decode_names.Goals as goal

pub loop-init : goal.loop-init
loop-init c = rw c.new-found_files.ensures.items (refl, none_read IsAnyName Text (IsFound c.args.files.now) c.args.count (unread c.args.input.now))

pub returns-in_err-name : goal.returns-in_err-name
returns-in_err-name c =
    let p = err_from_is_err_and c.from_residual.result c.from_residual.ensures.1 in
    λ xs rest long here fits is. rw (p.1, p.2)
    (one_refused IsAnyName Text (IsFound c.args.files.now) c.args.count (unread c.args.input.now) c.loop.found_files.items
    (unread c.loop.input) c.in_err-name.field-0.0 (unread c.take_text.new.self) c.loop.invariant.1 (omega arith)
    (λ x more _ fits is. c.in_err-name.ensures.again x more fits is) xs rest long here fits is)

pub loop-preserved : goal.loop-preserved
loop-preserved c =
    let p = c.find_file.result in
    rw c.in_ok-push.ensures.items (
      omega (arith, length-append c.loop.found_files.items (p ∷ [])),
      one_more IsAnyName Text (IsFound c.args.files.now) c.args.count (unread c.args.input.now) c.loop.found_files.items (unread c.loop.input)
          p (unread c.take_text.new.self) c.loop.invariant.1 (omega arith)
          (λ x more _ fits is. let t = c.in_ok-name.ensures.again x more fits is in
          (found_is c.args.files.now p c.in_ok-name.name.now x t.0 c.find_file.ensures.listed c.find_file.ensures.same, t.1)),
    )

pub returns : goal.returns
returns c = λ xs rest long here fits is.
    all_read IsAnyName Text (IsFound c.args.files.now) c.args.count (unread c.args.input.now) c.loop.found_files.items (unread c.loop.input)
    c.loop.invariant.1 (omega arith) xs rest long here fits is

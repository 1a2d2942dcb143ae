use Rattle.std.proofs.Common.{◌≡◌, ◌∙◌, [], ℕ, arith, length, subst, sym}
use Rattle.std.specs.Int.{w32, w64}
use Rattle.std.proofs.lemmas.Result.{err_from_is_err_and}
use Rattle.saved_bytes.specs.Files.{checksum}
use Rattle.saved_bytes.specs.Forms.{Form, spell, unread}
use Rattle.saved_bytes.specs.declared.pieces.TheConstants.{MAGIC}
use Rattle.saved_bytes.proofs.pieces.decode_header.Goals as goal

pub returns-in_err-magic-clause-again : goal.returns-in_err-magic-clause-again
returns-in_err-magic-clause-again c = λ version inner fits is.
    let p = err_from_is_err_and c.from_residual.result c.from_residual.ensures.1 in
    rw (p.1, p.2) (tt, c.in_err-magic.ensures.again (MAGIC, (version, (length inner, checksum version inner))) [] fits (c.at-input.ensures ∙ is))

pub returns-clause-only : goal.returns-clause-only
returns-clause-only c =
    let rest = unread c.decode.new.input in
    let magic : c.in_ok-magic.magic ≡ MAGIC = omega arith in (
      rest,
      subst (λ (k : ℕ). c.args.bytes.now ≡ spell (Form.Both (Form.Number w64 k) (Form.Both (Form.Number w32 c.in_ok-magic.version)
          (Form.Both (Form.Number w64 c.in_ok-magic.len) (Form.Number w64 c.in_ok-magic.sum)))) rest) magic
          (sym c.at-input.ensures ∙ c.in_ok-magic.ensures.only.1),
    )

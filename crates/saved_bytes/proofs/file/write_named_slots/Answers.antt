use Rattle.std.proofs.Common.{◌≡◌, ◌∙◌, ◌++◌, [], List, ℕ, ap, subst, sym, refl}
use Rattle.std.specs.Io.KnownBytes.{Appends as Adds}
use Rattle.std.proofs.lemmas.List.{append-nil}
use Rattle.std.proofs.lemmas.Result.{on_ok_weaker}
use Rattle.saved_bytes.specs.Files.{header, piece_of}
use Rattle.saved_bytes.specs.Forms.{spell, written, IsForm}
use Rattle.saved_bytes.specs.Images.{named_slots_form}
use Rattle.saved_bytes.specs.declared.pieces.TheConstants.{VERSION}
use Rattle.saved_bytes.proofs.file.write_named_slots.Goals as goal

pub returns : goal.returns
returns g c =
    let put = c.in_ok-encode_named_slots.ensures in
    let f = named_slots_form put.0 g.T.Saved.form c.args.slots.now in
    let inner = written c.encode_named_slots.new.out in
    let old = g.W.Write.contents c.args.out.now in
    let new = g.W.Write.contents c.write_piece.new.out in
    let spelled : inner ≡ spell f [] = sym (append-nil inner) ∙ (put.2.1 [] ∙ ap (λ (l : List ℕ). l ++ spell f []) c.clear.ensures) in
    on_ok_weaker c.write_piece.result (λ wrote.
    let piece = subst (λ (l : List ℕ). IsForm (header VERSION l) × Adds old new (piece_of VERSION l)) (c.bytes.ensures ∙ spelled) wrote in (
      piece_of VERSION (spell f []),
      record { names = put.0; named = put.1; fits = put.2.0; header_fits = piece.0; bytes = refl },
      piece.1,
    )) c.write_piece.ensures

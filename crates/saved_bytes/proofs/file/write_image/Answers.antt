use Rattle.std.proofs.Common.{◌≡◌, ◌∙◌, ◌++◌, ◌+◌, ◌/◌, [], List, ℕ, ap, subst, sym, refl, length}
use Rattle.std.specs.Io.KnownBytes.{Appends as Adds}
use Rattle.std.proofs.lemmas.List.{append-nil}
use Rattle.std.proofs.lemmas.Result.{on_ok_weaker}
use Rattle.store_images.specs.declared.image.SlotImage.{SlotImage}
use Rattle.saved_bytes.specs.Files.{header, piece_of, ArePieces}
use Rattle.saved_bytes.specs.Forms.{spell, written, IsForm}
use Rattle.saved_bytes.specs.Images.{front_form}
use Rattle.saved_bytes.specs.declared.file.TheConstants.{PIECE}
use Rattle.saved_bytes.specs.declared.pieces.TheConstants.{VERSION}
use Rattle.saved_bytes.proofs.Files.{adds_both}
use Rattle.saved_bytes.proofs.file.write_image.Goals as goal

pub returns : goal.returns
returns g c =
    let image = c.args.image.now in
    let f = front_form image in
    let inner = written c.encode_front.new.out in
    let old = g.W.Write.contents c.args.out.now in
    let mid = g.W.Write.contents c.write_piece.new.out in
    let new = g.W.Write.contents c.write_slots.new.out in
    let put = c.in_ok-encode_front.ensures in
    let spelled : inner ≡ spell f [] = sym (append-nil inner) ∙ (put.1 [] ∙ ap (λ (l : List ℕ). l ++ spell f []) c.new-front.ensures) in
    let piece = subst (λ (l : List ℕ). IsForm (header VERSION l) × Adds old mid (piece_of VERSION l)) (c.bytes.ensures ∙ spelled) c.in_ok-write_piece.ensures in
    on_ok_weaker c.write_slots.result (λ wrote. (
      piece_of VERSION (spell f []) ++ wrote.0,
      record {
        pieces = wrote.0;
        fits = put.0;
        header_fits = piece.0;
        are = subst (λ (l : List (SlotImage g.row.T.Denot)). ArePieces g.T.Saved.form (length l / PIECE + 1) l wrote.0) c.as_slice.ensures.value wrote.1;
        bytes = refl;
      },
      adds_both old mid new (piece_of VERSION (spell f [])) wrote.0 piece.1 wrote.2,
    )) c.write_slots.ensures

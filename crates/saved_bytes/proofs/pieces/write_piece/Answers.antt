use Rattle.std.proofs.Common.{◌≡◌, ◌∙◌, ◌++◌, List, ℕ, ap, subst}
use Rattle.std.specs.Io.KnownBytes.{Appends as Adds}
use Rattle.saved_bytes.specs.Files.{piece_of}
use Rattle.saved_bytes.specs.Forms.{written}
use Rattle.saved_bytes.specs.declared.pieces.TheConstants.{VERSION}
use Rattle.saved_bytes.proofs.Files.{adds_both}
use Rattle.saved_bytes.proofs.pieces.write_piece.Goals as goal

pub returns : goal.returns
returns g c =
    let inner = c.args.bytes.now in
    let head = written c.encode_header.new.out in
    let put = c.in_ok-encode_header.ensures in
    let old = g.W.Write.contents c.args.out.now in
    let mid = g.W.Write.contents c.write_all.new.self in
    let new = g.W.Write.contents c.write_all-2.new.self in
    let head_added = subst (λ (l : List ℕ). Adds old mid l) c.bytes.ensures c.in_ok-write_all.ensures.bytes in
    let whole : head ++ inner ≡ piece_of VERSION inner = put.1 inner ∙ ap (λ (l : List ℕ). l ++ piece_of VERSION inner) c.clear.ensures in
    (put.0, subst (λ (l : List ℕ). Adds old new l) whole (adds_both old mid new head inner head_added c.in_ok-write_all-2.ensures.bytes))

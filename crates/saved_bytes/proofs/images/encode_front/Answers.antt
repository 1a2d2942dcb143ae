use Rattle.std.proofs.Common.{◌≡◌, ℕ, List, ap, subst, length}
use Rattle.store_images.specs.declared.image.SlotImage.{SlotImage}
use Rattle.std.specs.Int.{w64}
use Rattle.std.proofs.lemmas.Result.{on_ok_weaker}
use Rattle.saved_bytes.specs.Forms.Form.{Number}
use Rattle.saved_bytes.specs.Forms.{Appends, written}
use Rattle.saved_bytes.specs.Images.{numbers_form}
use Rattle.saved_bytes.proofs.Files.{appends_both}
use Rattle.saved_bytes.proofs.images.encode_front.Goals as goal

pub returns : goal.returns
returns g c =
    let image = c.args.image.now in
    let count = length image.slots.items in
    let old = written c.args.out.now in
    let mid = written c.encode.new.out in
    let new = written c.put_u64.new.self in
    let long : length c.as_slice-slots.result.now ≡ count = ap (λ (l : List (SlotImage g.row.T.Denot)). length l) c.as_slice-slots.ensures.value in
    on_ok_weaker c.put_u64.result
    (λ put. appends_both (numbers_form image) (Number w64 count) old mid new c.in_ok-encode.ensures
    (subst (λ (n : ℕ). Appends (Number w64 n) mid new) long put)) c.put_u64.ensures

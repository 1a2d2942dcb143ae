use Rattle.std.proofs.Common.{arith, take, ◌≡◌, ◌∙◌, ◌+◌, ◌++◌, ◌∷◌, [], List, ap, sym, subst}
use Rattle.std.specs.Int.{w64}
use Rattle.std.proofs.lemmas.List.{take_more}
use Rattle.store_images.specs.declared.image.SlotImage.{SlotImage}
use Rattle.saved_bytes.specs.Forms.Form.{Number}
use Rattle.saved_bytes.specs.Forms.{Appends, items_form, written}
use Rattle.saved_bytes.specs.Images.{cell_form, slot_form}
use Rattle.saved_bytes.specs.FileNames.{texts}
use Rattle.saved_bytes.proofs.Files.{appends_both}
use Rattle.saved_bytes.proofs.Items.{appends_more}
use Rattle.saved_bytes.proofs.images.encode_slots.Goals as goal

pub loop-slot-preserved : goal.loop-slot-preserved
loop-slot-preserved g c =
    let xs = c.args.slots.now in
    let i = c.loop-slot.slot-index in
    let x = c.slot-item.result in
    let names = texts c.args.names.now in
    let form = slot_form names g.T.Saved.form in
    let old = written c.args.out.now in
    let new = written c.encode_cell.new.out in
    let more : take (i + 1) xs ≡ take i xs ++ x ∷ [] =
    take_more xs i x (omega arith) ∙ ap (λ (y : SlotImage g.row.T.Denot). take i xs ++ y ∷ []) (sym c.slot-item.is) in
    subst (λ (ys : List (SlotImage g.row.T.Denot)). Appends (items_form form ys) old new) (sym more)
    (appends_more form (take i xs) x old (written c.loop-slot.out) new c.loop-slot.invariant
    (appends_both (Number w64 x.generation) (cell_form names g.T.Saved.form x.cell) (written c.loop-slot.out)
    (written c.put_u64.new.self) new c.in_ok-put_u64.ensures c.in_ok-encode_cell.ensures))

use Rattle.std.proofs.Common.{arith, take}
use Rattle.std.proofs.lemmas.List.{take_more}
use Rattle.saved_bytes.specs.Forms.{written}
use Rattle.saved_bytes.proofs.Items.{appends_more}
use Rattle.saved_bytes.proofs.lists.encode_items.Goals as goal

pub loop-item-preserved : goal.loop-item-preserved
loop-item-preserved g c =
    let xs = c.args.items.now in
    let i = c.loop-item.item-index in
    let x = c.item-item.result in
    rw (take_more xs i x (omega arith), ← c.item-item.is)
    (appends_more g.T.Saved.form (take i xs) x (written c.args.out.now) (written c.loop-item.out) (written c.encode.new.out)
    c.loop-item.invariant c.in_ok-encode.ensures)

use Rattle.std.proofs.Common.{take}
use Rattle.saved_bytes.specs.Forms.{Appends, items_form, written}
use Rattle.saved_bytes.proofs.lists.encode_items.Given as goal

abbrev pub invariant-loop-item : goal.invariant-loop-item
invariant-loop-item g l =
    Appends (items_form g.T.Saved.form (take l.item-index l.items)) (written l.fn.out) (written l.out)

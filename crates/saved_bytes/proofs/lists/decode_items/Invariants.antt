use Rattle.std.proofs.Common.{◌≡◌, length}
use Rattle.saved_bytes.specs.Forms.{unread}
use Rattle.saved_bytes.proofs.Items.{AreRead, AreSpelled}
use Rattle.saved_bytes.proofs.lists.decode_items.Given as goal

abbrev pub invariant-loop : goal.invariant-loop
invariant-loop g l =
    let form = g.T.Saved.form in
    (length l.items.items ≡ l.counter)
    × AreRead (λ _. Unit {0}) form (λ x y. form y ≡ form x) l.count (unread l.fn.input) l.items.items (unread l.input)
    × AreSpelled form (unread l.fn.input) l.items.items (unread l.input)

use Rattle.std.proofs.Common.{List, ℕ, Option, sym, subst}
use Rattle.std.specs.Borrow.{Bor}
use Rattle.saved_bytes.specs.Forms.{items_form, spell, unread}
use Rattle.saved_bytes.specs.Images.{named_slots_form, slot_form, AreNamed, IsSlotAgain, IsSlotNamed}
use Rattle.saved_bytes.specs.FileNames.{IsFound}
use Rattle.saved_bytes.specs.Reading.{ArePairwise}
use Rattle.saved_bytes.proofs.Items.{as_one}
use Rattle.saved_bytes.proofs.images.decode_named_slots.Goals as goal

pub returns : goal.returns
returns g c = λ names xs rest named fits is.
    let form = g.T.Saved.form in
    let files = c.args.files.now in
    let found = c.in_ok-found_files.ensures names (spell (items_form (slot_form names form) xs) rest) tt fits.0 is in
    let pairs = subst (λ (ps : List (Option (Bor (List ℕ)))). ArePairwise (IsFound files) names ps) (sym c.as_slice.ensures.value) found.0 in
    as_one (IsSlotNamed names) (slot_form names form) (IsSlotAgain files c.args.here form) (λ v. v.items)
    (AreNamed names c.args.count) (named_slots_form names form) xs rest (unread c.decode_slots.new.input) c.decode_slots.result
    (c.decode_slots.ensures files names pairs xs rest named.0 named.1 fits.1 found.1)

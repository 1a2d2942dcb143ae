use Rattle.std.proofs.Common.{List, ℕ, subst}
use Rattle.std.specs.Borrow.{Bor}
use Rattle.std.proofs.lemmas.Result.{on_ok_weaker}
use Rattle.saved_bytes.specs.Forms.Form.{Text}
use Rattle.saved_bytes.specs.Forms.{Appends, items_form, list_form, written}
use Rattle.saved_bytes.specs.Images.{slot_form}
use Rattle.saved_bytes.specs.FileNames.{texts}
use Rattle.saved_bytes.proofs.Files.{appends_both}
use Rattle.saved_bytes.proofs.images.encode_named_slots.Goals as goal

pub returns : goal.returns
returns g c =
    let form = g.T.Saved.form in
    let slots = c.args.slots.now in
    let names = c.in_ok-names.names.items in
    let old = written c.args.out.now in
    let mid = written c.encode_file_names.new.out in
    let new = written c.encode_slots.new.out in
    let table = subst (λ (l : List (Bor (List ℕ))). Appends (list_form Text (texts l)) old mid) c.as_slice.ensures.value
    c.in_ok-encode_file_names.ensures in
    on_ok_weaker c.encode_slots.result (λ put. (
      texts names,
      c.in_ok-names.ensures,
      appends_both (list_form Text (texts names)) (items_form (slot_form (texts names) form) slots) old mid new table
          (subst (λ (l : List (Bor (List ℕ))). Appends (items_form (slot_form (texts l) form) slots) mid new) c.as_slice-2.ensures.value put),
    )) c.encode_slots.ensures

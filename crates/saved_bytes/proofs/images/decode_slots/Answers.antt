use Rattle.std.proofs.Common.{arith, ◌∷◌, [], length-append, refl}
use Rattle.std.proofs.lemmas.Result.{err_from_is_err_and}
use Rattle.saved_bytes.specs.Forms.{unread}
use Rattle.saved_bytes.specs.Images.{slot_form, IsSlotAgain, IsSlotNamed}
use Rattle.saved_bytes.proofs.Items.{all_read, none_read, one_more, one_refused}
use Rattle.saved_bytes.proofs.images.decode_slots.Goals as goal

pub loop-init : goal.loop-init
loop-init g c = rw c.in_ok-slots.ensures.items (
  refl,
  λ files names pairs.
      none_read (IsSlotNamed names) (slot_form names g.T.Saved.form) (IsSlotAgain files c.args.here g.T.Saved.form) c.args.count
      (unread c.args.input.now),
)

pub returns-in_err-slot : goal.returns-in_err-slot
returns-in_err-slot g c =
    let p = err_from_is_err_and c.from_residual-in_err-slot.result c.from_residual-in_err-slot.ensures.1 in
    λ files names pairs xs rest long here fits is. rw (p.1, p.2)
    (one_refused (IsSlotNamed names) (slot_form names g.T.Saved.form) (IsSlotAgain files c.args.here g.T.Saved.form) c.args.count
    (unread c.args.input.now) c.loop.slots.items (unread c.loop.input) c.in_err-slot.field-0.0
    (unread c.decode_slot.new.input) (c.loop.invariant.1 files names pairs) (omega arith)
    (c.in_err-slot.ensures files names pairs) xs rest long here fits is)

pub loop-preserved : goal.loop-preserved
loop-preserved g c =
    rw c.in_ok-push.ensures.items (
      omega (arith, length-append c.loop.slots.items (c.in_ok-slot.slot ∷ [])),
      λ files names pairs.
          one_more (IsSlotNamed names) (slot_form names g.T.Saved.form) (IsSlotAgain files c.args.here g.T.Saved.form) c.args.count
          (unread c.args.input.now) c.loop.slots.items (unread c.loop.input) c.in_ok-slot.slot
          (unread c.decode_slot.new.input) (c.loop.invariant.1 files names pairs) (omega arith)
          (c.in_ok-slot.ensures files names pairs),
    )

pub returns : goal.returns
returns g c = λ files names pairs xs rest long here fits is.
    all_read (IsSlotNamed names) (slot_form names g.T.Saved.form) (IsSlotAgain files c.args.here g.T.Saved.form) c.args.count
    (unread c.args.input.now) c.loop.slots.items (unread c.loop.input) (c.loop.invariant.1 files names pairs) (omega arith)
    xs rest long here fits is

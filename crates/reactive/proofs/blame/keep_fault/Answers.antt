use Rattle.reactive.proofs.{ap, Frame, get_or, inl, inr, IsOn, length, List, put_only, refl, slice_get-get_or, subst, sym, ⊎_elim, ℕ, ◌<◌}
use Rattle.reactive.proofs.blame.keep_fault.Goals as goal

at_frame : (path : List Frame) (i : ℕ) (d : Frame) → i < length path → IsOn path (get_or path i d).key
at_frame path i d low = (i, get_or path i d, slice_get-get_or path i d low, refl)

pub loop-frame-init : goal.loop-frame-init
loop-frame-init c = λ s b is. ⊎_elim
    (λ was. inl was)
    (λ here. inr (ap (λ x. x.fault) here, c.in-None.ensures.none, inl (ap (λ x. x.key) here)))
    (put_only _ _ c.args.top.id.slot (record { key = c.args.top; fault = c.args.fault }) _ c.put.ensures.put c.put.ensures.others
    c.put.ensures.failed s b is)

pub loop-frame-preserved : goal.loop-frame-preserved
loop-frame-preserved c = λ s b is. ⊎_elim
    (λ was. c.loop-frame.invariant s b was)
    (λ here. inr (
      ap (λ x. x.fault) here,
      c.in-None.ensures.none,
      inr (subst (IsOn c.args.path.now.items) (sym (ap (λ x. x.key) here))
          (rw (← c.deref-frame-items.ensures.value)
          (at_frame c.deref-frame-items.result.now c.loop-frame.frame-index _ c.loop-frame-test.true))),
    ))
    (put_only _ _ _ _ _ c.put-in-loop-frame.ensures.put c.put-in-loop-frame.ensures.others
    c.put-in-loop-frame.ensures.failed s b is)

pub returns : goal.returns
returns c = c.loop-frame.invariant

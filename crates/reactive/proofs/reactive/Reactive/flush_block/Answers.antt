use Rattle.reactive.proofs.{all_length, ap, append-nil, append_assoc, arith, hears_next, inl, inr, length, quiet_told, sym, [], ⊎_elim, ◌++◌, ◌∙◌}
use Rattle.std.proofs.lemmas.List.{length-set}
use Rattle.reactive.proofs.reactive.Reactive.flush_block.Goals as goal

pub loop-slot-preserved : goal.loop-slot-preserved
loop-slot-preserved g c =
    let inv = c.loop-slot.invariant in
    let heard = c.in_ok-hear.ensures.heard in
    let step = c.loop-slot-test.true in
    let low = c.block_end-end.ensures.low in
    let many = c.slots-many.ensures.many in
    let same = inv.5 in (
      c.hear.ensures.plans ∙ inv.0,
      (
        inv.1.0 ++ heard.0,
        heard.1 ∙ (ap (λ xs. xs ++ heard.0) inv.1.1 ∙ append_assoc c.args.told.now.items inv.1.0 heard.0),
        λ before earlier all.
            let now = inv.1.2 before earlier all in
            let long = all_length g.T.Value.is_same _ _ _ before _ _ now in
            rw (← append_assoc earlier inv.1.0 heard.0)
            (hears_next g.T.Value.is_same _ _ _ _ c.loop-slot.slot before (earlier ++ inv.1.0) heard.0 inv.0 inv.2 now
            (omega (arith, step, low, many, same)) heard.2),
      ),
      c.hear.ensures.kinds ∙ inv.2,
      λ k v h. c.hear.ensures.lasts k v (inv.3 k v h),
      omega (arith, step),
      ap length heard.2.effects ∙ (length-set _ _ _ ∙ inv.5),
    )

pub returns-then-is_quiet-clause-told : goal.returns-then-is_quiet-clause-told
returns-then-is_quiet-clause-told g c = λ before earlier all.
    let done = quiet_told g.T.Value.is_same c.args.self.now c.args.block before earlier all
    (c.is_quiet.ensures c.if-is_quiet.true) in
    (done.0, [], sym (append-nil _), rw (append-nil earlier) done.1.0, done.1.1)

pub quiet-requires : goal.quiet-requires
quiet-requires g c =
    let inv = c.loop-slot.invariant in
    let same = inv.5 in
    let within = c.requires in
    omega (arith, same, within)

pub returns-clause-told : goal.returns-clause-told
returns-clause-told g c = λ before earlier all.
    let inv = c.loop-slot.invariant in
    let now = inv.1.2 before earlier all in
    let long = all_length g.T.Value.is_same _ _ _ before _ _ now in
    let start = all_length g.T.Value.is_same _ _ _ before _ _ all in
    let done = c.loop-slot-test.false in
    let within = inv.4 in
    let many = c.slots-many.ensures.many in
    let end = c.block_end-end.ensures.end in (
      c.loop-slot.slot,
      inv.1.0,
      inv.1.1,
      rw (ap (λ x. x.effects) c.quiet.ensures) now,
      ⊎_elim
          (λ full. inl (omega (arith, full, done, within)))
          (λ short. inr (omega (arith, short.0, many, done, within, start.0), omega (arith, short.1, many, start.0)))
          end,
    )

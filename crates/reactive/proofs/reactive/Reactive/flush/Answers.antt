use Rattle.reactive.proofs.{all_length, ap, append_assoc, arith, inl, inr, rules, ⊎_elim, ◌++◌, ◌∙◌}
use Rattle.reactive.proofs.reactive.Reactive.flush.Goals as goal

pub flush_block-requires : goal.flush_block-requires
flush_block-requires g c =
    let inv = c.loop-block.invariant in
    let many = c.slots.ensures.many in
    let turn = c.loop-block-test.true in
    let long = all_length g.T.Value.is_same _ _ _ _ _ _ inv.1.3 in
    let same = long.0 in
    omega (arith, many, turn, same)

pub returns-in_err-flush_block-clause-told : goal.returns-in_err-flush_block-clause-told
returns-in_err-flush_block-clause-told g c =
    let inv = c.loop-block.invariant in
    let many = c.slots.ensures.many in
    let turn = c.loop-block-test.true in
    let all = ⊎_elim (λ is. rw is at inv.1.3) (λ past. let low = past.1 in absurd (omega (arith, many, turn, low))) inv.1.4 in
    let t = c.in_err-flush_block.ensures.told c.args.self.now.effects inv.1.1 (rw (inv.0, inv.2) all) in (
      t.0,
      inv.1.1 ++ t.1,
      t.2 ∙ (ap (λ xs. xs ++ t.1) inv.1.2 ∙ append_assoc c.args.told.now.items inv.1.1 t.1),
      rw (inv.0, inv.2) at t.3,
      search rules,
    )

pub loop-block-preserved : goal.loop-block-preserved
loop-block-preserved g c =
    let inv = c.loop-block.invariant in
    let many = c.slots.ensures.many in
    let turn = c.loop-block-test.true in
    let all = ⊎_elim (λ is. rw is at inv.1.3) (λ past. let low = past.1 in absurd (omega (arith, many, turn, low))) inv.1.4 in
    let t = c.in_ok-flush_block.ensures.told c.args.self.now.effects inv.1.1 (rw (inv.0, inv.2) all) in (
      c.flush_block.ensures.plans ∙ inv.0,
      (
        t.0,
        inv.1.1 ++ t.1,
        t.2 ∙ (ap (λ xs. xs ++ t.1) inv.1.2 ∙ append_assoc c.args.told.now.items inv.1.1 t.1),
        rw (inv.0, inv.2) at t.3,
        ⊎_elim (λ is. inl (omega (arith, is))) (λ past. let low = past.1 in inr (past.0, omega (arith, low))) t.4,
      ),
      c.flush_block.ensures.kinds ∙ inv.2,
      λ k v h. c.flush_block.ensures.lasts k v (inv.3 k v h),
    )

pub returns-clause-told : goal.returns-clause-told
returns-clause-told g c =
    let inv = c.loop-block.invariant in
    let many = c.slots.ensures.many in
    let done = c.loop-block-test.false in
    let long = all_length g.T.Value.is_same _ _ _ _ _ _ inv.1.3 in
    let up_to = long.1 in (
      inv.1.0,
      inv.1.1,
      inv.1.2,
      inv.1.3,
      ⊎_elim (λ is. absurd (omega (arith, is, many, done, up_to))) (λ past. past.0) inv.1.4,
    )

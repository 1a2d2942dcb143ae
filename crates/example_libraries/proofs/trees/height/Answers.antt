use Rattle.example_libraries.proofs.{ap, arith, get_pushed, map-id, slice_get, sym, YieldsList-end}
use Rattle.example_libraries.proofs.{YieldsList-from_first, ℕ, ⊎_elim, ◌∙◌}
use Rattle.example_libraries.proofs.trees.height.Goals as goal

pub rows-preserved-then-depth-height : goal.rows-preserved-then-depth-height
rows-preserved-then-depth-height g c i row at = ⊎_elim
    (λ old. let le = c.rows.invariant i row old in
    let lt = c.if-depth-height.true in omega (arith, le, lt))
    (λ new. let same = ap (λ (r : ℕ × _). r.0) new.1 in omega (arith, same))
    (get_pushed c.rows.yielded i _ row at)

pub rows-preserved : goal.rows-preserved
rows-preserved g c i row at = ⊎_elim (λ old. c.rows.invariant i row old)
    (λ new. let same = ap (λ (r : ℕ × _). r.0) new.1 in
    let le = c.if-depth-height.false in omega (arith, same, le))
    (get_pushed c.rows.yielded i _ row at)

pub returns : goal.returns
returns g c i row at =
    let all = YieldsList-end (YieldsList-from_first (λ row. row) (λ rest. rest) _
    c.into_iter-depth-iterator.ensures.into_iter_gives)
    c.rows.yielded _ c.rows.yielded_by _ _ c.in-None.is c.next.ensures.steps in
    c.rows.invariant i row (ap (λ rows. slice_get rows i) (sym (sym all.0 ∙ map-id c.rows.yielded)
    ∙ c.in_ok-items.ensures.outline) ∙ at)

use Rattle.std.proofs.Common.{ap, append_assoc, arith, subst, sym, [], ◌++◌, ◌∙◌, ◌∷◌, ◌≡◌}
use Rattle.example_saving.specs.Moving.{AreAdopted}
use Rattle.example_saving.proofs.{adopted_more}
use Rattle.example_saving.proofs.moved.adopt_rows.Goals as goal

pub loop-row-preserved : goal.loop-row-preserved
loop-row-preserved c =
    let so = c.loop-row.invariant in
    let left : c.loop-row.left.now ≡ c.in-Some.row.now ∷ c.in-Some.rest.now = grind (arith, c.in-Some.ensures.cases) in
    let pushed : c.push.new.self.items ≡ c.loop-row.moved.items ++ c.in_ok-row.row ∷ [] =
    grind (arith, c.push.ensures.items) in (
      so.0 ++ c.in-Some.row.now ∷ [],
      so.1 ∙ (ap (λ xs. so.0 ++ xs) left ∙ sym (append_assoc so.0 (c.in-Some.row.now ∷ []) c.in-Some.rest.now)),
      subst (AreAdopted c.args.loaded.now (so.0 ++ c.in-Some.row.now ∷ [])) (sym pushed)
          (adopted_more c.args.loaded.now so.0 c.loop-row.moved.items c.in-Some.row.now c.in_ok-row.row so.2 c.in_ok-row.ensures),
    )

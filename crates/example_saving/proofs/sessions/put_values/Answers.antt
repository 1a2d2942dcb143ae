use Rattle.std.proofs.Common.{ap, append_assoc, arith, refl, sym, [], ◌++◌, ◌∙◌, ◌∷◌, ◌≡◌}
use Rattle.std.specs.Prelude.{nat_eq, option_map}
use Rattle.example_saving.proofs.{with_more}
use Rattle.example_saving.specs.Logins.{seen_at, with_values}
use Rattle.example_saving.proofs.sessions.put_values.Goals as goal

pub loop-pair-preserved : goal.loop-pair-preserved
loop-pair-preserved g c =
    let so = c.loop-pair.invariant in
    let pair = c.in-Some.pair.now in
    let put = c.if-not-put_value.ensures in
    let left : c.loop-pair.left.now ≡ pair ∷ c.in-Some.rest.now = grind (arith, c.in-Some.ensures.cases) in (
      so.0 ++ pair ∷ [],
      so.1 ∙ (ap (λ xs. so.0 ++ xs) left ∙ sym (append_assoc so.0 (pair ∷ []) c.in-Some.rest.now)),
      put.own,
      put.put refl ∙ (ap (option_map (with_values (pair ∷ []))) so.3
          ∙ with_more so.0 (pair ∷ []) (seen_at nat_eq c.args.table.now c.args.id)),
      λ other apart. put.others other apart ∙ so.4 other apart,
    )

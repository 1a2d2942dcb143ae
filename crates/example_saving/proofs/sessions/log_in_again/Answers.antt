use Rattle.std.proofs.Common.{ap, append_assoc, arith, map, refl, sym, [], ◌++◌, ◌∙◌, ◌∷◌, ◌≡◌}
use Rattle.std.proofs.lemmas.List.{map-append}
use Rattle.std.specs.Map.{lookup}
use Rattle.std.specs.Prelude.{nat_eq}
use Rattle.example_saving.proofs.{logged_more}
use Rattle.example_saving.specs.Logins.{seen_at, told_row}
use Rattle.example_saving.proofs.sessions.log_in_again.Goals as goal

pub loop-row-preserved : goal.loop-row-preserved
loop-row-preserved g c =
    let so = c.loop-row.invariant in
    let row = c.in-Some.row.now in
    let done = c.if-not-log_in.ensures in
    let left : c.loop-row.left.now ≡ row ∷ c.in-Some.rest.now = grind (arith, c.in-Some.ensures.cases) in (
      so.0 ++ row ∷ [],
      so.1 ∙ (ap (λ xs. so.0 ++ xs) left ∙ sym (append_assoc so.0 (row ∷ []) c.in-Some.rest.now)),
      done.own,
      λ id. logged_more (seen_at nat_eq c.loop-row.table) (seen_at nat_eq c.log_in.new.table) (map told_row so.0)
          (told_row row) so.3 (done.none refl) (done.here refl) done.others id
          ∙ ap (lookup (nat_eq id)) (sym (map-append told_row so.0 (row ∷ []))),
    )

use Rattle.example_libraries.proofs.{cases_Bool, false, is_some, IsErr, None, Option, refl, Some, subst, sym}
use Rattle.example_libraries.proofs.{true≢false, ⊎_elim, ◌≡◌}
use Rattle.example_libraries.proofs.trees.moved_round.Goals as goal

none_there : {X : Type 0} (x : Option X) → is_some x ≡ false → x ≡ None
none_there None is = refl
none_there (Some x) is = absurd (true≢false is)

pub returns : goal.returns
returns g c = ⊎_elim
    (λ live. subst IsErr (sym (c.move_to-2.ensures.fails.cycle live
    (1, (c.args.other, c.in_ok-move_to.ensures.moved, refl)))) refl)
    (λ gone. subst IsErr (sym (c.move_to-2.ensures.fails.gone (none_there _ gone))) refl)
    (cases_Bool _)

use Rattle.scene_tree.proofs.{ap, fresh_kept, fresh_sees, is_some, IsTreeKept, none_noted, pointer_in, refl, subst}
use Rattle.scene_tree.proofs.{sym, true≢false, value_in, [], ◌∙◌}
use Rattle.scene_tree.proofs.tree.SceneTree.new.Goals as goal

pub invariant_of-result : goal.invariant_of-result
invariant_of-result g c =
    rw c.new.ensures.items (
      subst (λ S. IsTreeKept S []) (sym c.requires) (fresh_kept _ _ _),
      λ slot. record { first = refl; last = refl; chain = tt },
      none_noted _ (λ n live. true≢false (sym live
          ∙ ap is_some (ap (λ S. value_in S (pointer_in n)) c.requires ∙ fresh_sees _ _ _ (pointer_in n)))),
      c.new.ensures.number ∙ c.number-number.ensures,
    )

pub returns-clause-none : goal.returns-clause-none
returns-clause-none g c n = rw c.requires (fresh_sees _ _ _ (pointer_in n))

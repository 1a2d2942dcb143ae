use Rattle.example_callers.proofs.{ap, left_twice, lends, Ok, refl, release_lost, same_Some, set_beside}
use Rattle.example_callers.proofs.{set_seen, Some, sym, written_by, ◌∙◌}
use Rattle.example_callers.proofs.values.replaced_value.Goals as goal

pub unreachable-requires : goal.unreachable-requires
unreachable-requires g c =
    release_lost _ _ c.in_ok-guard.guard _ _ _ c.in_ok-guard.ensures c.in-Err.ensures
    c.replace-old.ensures.after

pub returns-in_err-seen-clause-others : goal.returns-in_err-seen-clause-others
returns-in_err-seen-clause-others g c b apart =
    let set = written_by _ _ c.in_ok-guard.guard _ _ (Ok c.in-Ok.field-0) c.in_ok-guard.ensures
    c.in-Ok.ensures c.replace-old.ensures.after in
    left_twice (set_beside set.1 b apart) (c.in_err-seen.ensures.left b)

pub returns : goal.returns
returns g c =
    let set = (written_by _ _ c.in_ok-guard.guard _ _ (Ok c.in-Ok.field-0) c.in_ok-guard.ensures
    c.in-Ok.ensures c.replace-old.ensures.after).1 in record {
      old =
          lends _ _ (Ok c.in_ok-guard.guard) c.in_ok-guard.ensures ∙ ap Some (sym c.replace-old.ensures.old);
      new = same_Some _ _ (sym c.in_ok-seen.ensures.seen ∙ set_seen set _ refl);
      others = λ b apart. left_twice (set_beside set b apart) (c.in_ok-seen.ensures.left b);
    }

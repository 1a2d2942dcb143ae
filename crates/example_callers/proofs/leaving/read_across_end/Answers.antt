use Rattle.example_callers.proofs.{arith, common_steps, Ok, opens_value, reader_sees, reads_known, rules}
use Rattle.example_callers.proofs.{same_value, ◌∙◌}
use Rattle.example_callers.proofs.leaving.read_across_end.Goals as goal

pub unreachable-requires : goal.unreachable-requires
unreachable-requires g c =
    let same = reader_sees _ _ _ _ (g.met.S.AnyStorage.sound _) c.manually_drop.ensures
    c.in_ok-guard.guard tt (reads_known _ _ _ _ c.in_ok-guard.ensures).0 in
    let read = opens_value _ _ (Ok c.in_ok-guard.guard) c.in_ok-guard.ensures in
    grind (arith, common_steps, c.deref.ensures ∙ (same ∙ read.1))

pub returns : goal.returns
returns g c =
    let sound = g.met.S.AnyStorage.sound in
    let read = opens_value _ _ (Ok c.in_ok-guard.guard) c.in_ok-guard.ensures in
    let same = reader_sees _ _ _ _ (sound _) c.manually_drop.ensures c.in_ok-guard.guard tt
    (reads_known _ _ _ _ c.in_ok-guard.ensures).0 in
    let seen = c.deref.ensures ∙ (same ∙ read.1) in
    let saw = read.2 in record {
      seen = grind (arith, common_steps);
      others = λ b other. same_value _ _ _ _ (sound _) c.release.ensures b tt tt
          ∙ (same_value _ _ _ _ (sound _) c.manually_drop.ensures b other tt
          ∙ same_value _ _ _ _ (sound _) c.in_ok-guard.ensures b tt tt);
      refused = search rules;
    }

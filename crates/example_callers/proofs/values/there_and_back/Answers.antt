use Rattle.example_callers.proofs.{arith, common_steps, Err, left_given, left_still, left_twice, made}
use Rattle.example_callers.proofs.{made_free, made_next, make_short, None, Ok, opens_value, read_leaves}
use Rattle.example_callers.proofs.{read_short, refused_read, rules, sym, ◌∙◌}
use Rattle.example_callers.proofs.values.there_and_back.Goals as goal

pub returns-in-Err-clause-short : goal.returns-in-Err-clause-short
returns-in-Err-clause-short g c = let short = make_short _ _ _ c.in-Err.ensures.step in grind arith

pub returns-in_err-guard : goal.returns-in_err-guard
returns-in_err-guard g c =
    let sound = g.met.S.AnyStorage.sound in
    let step = c.in-Ok.ensures.step in
    let free = made_free None _ _ (Ok c.in-Ok.made) step in
    let short = read_short _ _ (sound _) free _ c.in_err-guard.ensures in
    let next = made_next _ _ _ step in record {
      same = search rules;
      others = λ b given. left_twice (left_given _ _ (sound _) step b tt given)
          (left_still b (refused_read _ (Err c.in_err-guard.field-0.0) c.in_err-guard.ensures));
      short = grind arith;
    }

pub unreachable-requires : goal.unreachable-requires
unreachable-requires g c =
    let read = opens_value _ _ (Ok c.in_ok-guard.guard) c.in_ok-guard.ensures in
    grind (arith, common_steps, c.deref.ensures ∙ read.1)

pub returns : goal.returns
returns g c =
    let sound = g.met.S.AnyStorage.sound in
    let step = c.in-Ok.ensures.step in
    let read = opens_value _ _ (Ok c.in_ok-guard.guard) c.in_ok-guard.ensures in
    let seen = c.deref.ensures ∙ read.1 in
    let saw = sym read.2 ∙ made None _ _ (Ok c.in-Ok.made) step in record {
      same = grind (arith, common_steps);
      others = λ b given. left_twice (left_given _ _ (sound _) step b tt given)
          (read_leaves _ _ _ _ (sound _) c.in_ok-guard.ensures c.release.ensures b);
      short = search rules;
    }

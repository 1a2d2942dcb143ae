use Rattle.example_callers.proofs.{ap, arith, Err, free_reads, left_given, left_still, left_twice}
use Rattle.example_callers.proofs.{made_shared_free, None, Ok, paired, read_short, refer_short, refused_refer}
use Rattle.example_callers.proofs.{rules, same_Some, set_free, share_short, shares, sym, write_short, ◌∙◌}
use Rattle.example_callers.proofs.shared.written_through.Goals as goal

pub returns-in-Err-clause-short : goal.returns-in-Err-clause-short
returns-in-Err-clause-short g c = let short = share_short _ _ _ c.in-Err.ensures.step in grind arith

pub returns-in_err-second : goal.returns-in_err-second
returns-in_err-second g c =
    let sound = g.met.S.AnyStorage.sound in
    let step = c.in-Ok.ensures.step in
    let shared = shares _ _ _ step in
    let free = free_reads _ _ (made_shared_free None _ _ (Ok c.in-Ok.first) step) in
    let short = refer_short _ _ (sound _) shared.reference free c.in_err-second.ensures in
    let slots = shared.slots in record {
      written = search rules;
      others = λ b given. left_twice (left_given _ _ (sound _) step b tt given)
          (left_still b (refused_refer _ (Err c.in_err-second.field-0.0) c.in_err-second.ensures));
      short = grind arith;
    }

pub returns-in_err-write_value : goal.returns-in_err-write_value
returns-in_err-write_value g c =
    let sound = g.met.S.AnyStorage.sound in
    let pair = paired _ _ _ c.in_ok-second.second (sound _) (sound _) c.in-Ok.ensures.step
    c.in_ok-second.ensures in
    let short = write_short _ _ (sound _) pair.free _ c.in_err-write_value.ensures.refused in
    let next = pair.next in record {
      written = search rules;
      others = λ b given.
          left_twice (pair.others b given) (left_still b c.in_err-write_value.ensures.unchanged);
      short = grind arith;
    }

pub returns-in_err-seen : goal.returns-in_err-seen
returns-in_err-seen g c =
    let sound = g.met.S.AnyStorage.sound in
    let pair = paired _ _ _ c.in_ok-second.second (sound _) (sound _) c.in-Ok.ensures.step
    c.in_ok-second.ensures in
    let set = c.in_ok-write_value.ensures.set in
    let short = read_short _ _ (sound _) (set_free set _ pair.together) _ c.in_err-seen.ensures.refused in
    let after = ap (λ X. X.next) set.after in
    let next = pair.next in record {
      written = search rules;
      others = λ b given. left_twice (left_twice (pair.others b given)
          (c.write_value.ensures.others b (pair.beside b given))) (c.in_err-seen.ensures.left b);
      short = grind arith;
    }

pub returns : goal.returns
returns g c =
    let sound = g.met.S.AnyStorage.sound in
    let pair = paired _ _ _ c.in_ok-second.second (sound _) (sound _) c.in-Ok.ensures.step
    c.in_ok-second.ensures in
    record {
      written = same_Some _ _
          (sym c.in_ok-seen.ensures.seen ∙ c.in_ok-write_value.ensures.written _ pair.together);
      others = λ b given. left_twice (left_twice (pair.others b given)
          (c.write_value.ensures.others b (pair.beside b given))) (c.in_ok-seen.ensures.left b);
      short = search rules;
    }

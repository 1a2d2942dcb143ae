use Rattle.example_callers.proofs.{arith, ended_next, ends_free, Err, free_reads, given_other, keeps}
use Rattle.example_callers.proofs.{keeps_free, leaves, left_given, left_still, left_twice, made_shared_free}
use Rattle.example_callers.proofs.{None, Ok, paired, read_short, refer_short, refused_refer, rules, same_Some}
use Rattle.example_callers.proofs.{share_short, shares, sym, true≢false, ◌∙◌}
use Rattle.example_callers.proofs.shared.outlived.Goals as goal

pub returns-in-Err-clause-short : goal.returns-in-Err-clause-short
returns-in-Err-clause-short g c = let short = share_short _ _ _ c.in-Err.ensures.step in grind arith

pub returns-in_err-second : goal.returns-in_err-second
returns-in_err-second g c =
    let sound = g.met.S.AnyStorage.sound in
    let step = c.in-Ok.ensures.step in
    let shared = shares _ _ _ step in
    let free = free_reads _ _ (made_shared_free None _ _ (Ok c.in-Ok.first) step) in
    let short = refer_short _ _ (sound _) shared.reference free c.in_err-second.ensures in
    let slots = shared.slots in record {
      same = search rules;
      others = λ b given. left_twice (left_given _ _ (sound _) step b tt given)
          (left_still b (refused_refer _ (Err c.in_err-second.field-0.0) c.in_err-second.ensures));
      short = grind arith;
    }

pub returns-in_err-manually_drop : goal.returns-in_err-manually_drop
returns-in_err-manually_drop g c =
    let sound = g.met.S.AnyStorage.sound in
    let pair = paired _ _ _ c.in_ok-second.second (sound _) (sound _) c.in-Ok.ensures.step
    c.in_ok-second.ensures in
    absurd (true≢false (sym (ends_free _ {U = Unit {0}} (Err c.in_err-manually_drop.field-0.0)
    c.in_err-manually_drop.ensures pair.free)))

pub returns-in_err-kept : goal.returns-in_err-kept
returns-in_err-kept g c =
    let sound = g.met.S.AnyStorage.sound in
    let pair = paired _ _ _ c.in_ok-second.second (sound _) (sound _) c.in-Ok.ensures.step
    c.in_ok-second.ensures in
    let still = keeps_free _ _ (sound _) c.manually_drop.ensures _ pair.apart pair.free_too in
    let short = read_short _ _ (sound _) still _ c.in_err-kept.ensures.refused in
    let ended = ended_next _ _ c.manually_drop.ensures in
    let next = pair.next in record {
      same = search rules;
      others = λ b given. left_twice (left_twice (pair.others b given)
          (leaves _ _ _ _ (sound _) c.manually_drop.ensures b
          (given_other _ _ _ _ b c.in-Ok.ensures.step given) tt)) (c.in_err-kept.ensures.left b);
      short = grind arith;
    }

pub returns : goal.returns
returns g c =
    let sound = g.met.S.AnyStorage.sound in
    let pair = paired _ _ _ c.in_ok-second.second (sound _) (sound _) c.in-Ok.ensures.step
    c.in_ok-second.ensures in
    let kept = keeps _ _ (sound _) c.manually_drop.ensures _ _ pair.apart pair.seen in record {
      same = same_Some _ _ (sym c.in_ok-kept.ensures.seen ∙ kept);
      others = λ b given. left_twice (left_twice (pair.others b given)
          (leaves _ _ _ _ (sound _) c.manually_drop.ensures b
          (given_other _ _ _ _ b c.in-Ok.ensures.step given) tt)) (c.in_ok-kept.ensures.left b);
      short = search rules;
    }

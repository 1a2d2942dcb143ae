use Rattle.generational_sessions.proofs.{◌≡◌, [], arith, rules, subst, common_steps, IsSoundSession}
use Rattle.generational_sessions.proofs.{run_answers, all_keep_promises, all_tell_ends}
use Rattle.generational_sessions.proofs.{run_keep_boxes, boxes_apart, run_starts, run_goes}
use Rattle.generational_sessions.proofs.{run_ends, went, run_kept, run_ended, run_value}
use Rattle.generational_sessions.proofs.session.Session.run.Goals as goal

pub loop-call-init : goal.loop-call-init
loop-call-init g c =
    let room = went c.reserve_more.result c.if-is_err.ensures.value c.reserve_more.ensures.ok in record {
      run = run_starts _ _ _ _ _ _ c.self.view_is c.reserve_more.ensures.items c.reverse.ensures.items
          c.in-Ok.ensures.items;
      things = omega arith;
      replies = omega (arith, c.in-Ok.ensures.len, c.in-Ok.ensures.capacity);
    }

pub loop-call-preserved : goal.loop-call-preserved
loop-call-preserved g c = record {
  run = run_goes _ _ _ _ _ _ _ _ _ c.in-Some.call _ _ _ _ c.in-Some.ensures.items
      c.answer-reply.ensures.step c.push_reserved.ensures.items
      c.push_reserved-in-Some.ensures.items c.loop-call.invariant.run;
  things = omega (arith, c.in-Some.ensures.len);
  replies = omega (arith, c.in-Some.ensures.len);
}

pub invariant_of-self-in_default : goal.invariant_of-self-in_default
invariant_of-self-in_default g c =
    let none : c.loop-call.calls.items ≡ [] = grind (arith, common_steps) in
    run_kept c.args.calls.items _ _ _ (subst IsSoundSession c.self.view_is c.self.invariant)
    (run_ends _ _ _ _ _ c.loop-call.replies.items none c.loop-call.invariant.run)

pub returns : goal.returns
returns g c =
    let calls = c.args.calls.items in
    let before = subst IsSoundSession c.self.view_is c.self.invariant in
    let none : c.loop-call.calls.items ≡ [] = grind (arith, common_steps) in
    let run = run_ends _ _ _ _ _ c.loop-call.replies.items none c.loop-call.invariant.run in
    record {
      run = run;
      back = search rules;
      unchanged = search rules;
      same_answers = λ a matches. run_answers calls _ _ _ a matches before.sound run;
      promises = λ run. all_keep_promises calls _ _ _ before run;
      tell_ends = all_tell_ends calls _ _ _ run;
      keep_boxes = run_keep_boxes calls _ _ _ run;
      boxes_apart = boxes_apart calls _ _ _ run;
      kept = run_kept calls _ _ _ before run;
      bounded = (run_kept calls _ _ _ before run).bounded.few;
      ended = λ n ended. run_ended calls _ _ _ run n ended;
      kept_value = λ b m run u. (run_value calls _ _ _ b m before.sound run u).1;
    }

use Rattle.generational_sessions.proofs.{rules, subst, IsSoundSession, call_answers, tells_ends}
use Rattle.generational_sessions.proofs.{gives_new_box, lasts_end, keep_boxes, call_step, refusals}
use Rattle.generational_sessions.proofs.{session_kept, session_ended, session_value}
use Rattle.generational_sessions.proofs.session.Session.call.Goals as goal

pub invariant_of-self-2 : goal.invariant_of-self-2
invariant_of-self-2 g c = session_kept _ _ c.args.call _ (subst IsSoundSession
    c.self.view_is c.self.invariant) (call_step _ _ _ _ _ c.args.call _ _ c.self.view_is
    (rw c.reserve_more.ensures.items at c.answer-reply.ensures.step) c.push_reserved.ensures.items)

pub returns : goal.returns
returns g c =
    let before = subst IsSoundSession c.self.view_is c.self.invariant in
    let step = call_step _ _ _ _ _ c.args.call _ _ c.self.view_is
    (rw c.reserve_more.ensures.items at c.answer-reply.ensures.step) c.push_reserved.ensures.items in
    let told = refusals _ _ c.args.call _ step in
    record {
      step = step;
      back = search rules;
      unchanged = search rules;
      same_answer = λ a matches. call_answers c.args.call _ _ _ a matches before.sound step;
      tells_ends = tells_ends _ _ c.args.call _ step;
      new_box = gives_new_box _ _ c.args.call _ step;
      keep_boxes = keep_boxes _ _ c.args.call _ step;
      ends_owned = lasts_end _ _ c.args.call _ step before.sound;
      tells_lack = told.lack;
      tells_exhaustion = told.exhaustion;
      refusal_leaves_all = told.leaves_all;
      kept = session_kept _ _ c.args.call _ before step;
      bounded = (session_kept _ _ c.args.call _ before step).bounded.few;
      ended = λ n ended. session_ended _ _ c.args.call _ step n ended;
      kept_value = λ b m undisturbed.
          session_value _ _ c.args.call _ b m before.sound step undisturbed;
    }

use Rattle.shared_state.proofs.{ap, IfSome, end_of_borrow_recorded, none_recorded, Some, subst, ◌∙◌, ◌≡◌}
use Rattle.shared_state.proofs.state.record_end.Goals as goal

pub returns-in-Some : goal.returns-in-Some
returns-in-Some g c =
    let reply = g.E.StepEntry.as_reply c.args.entry in
    let told = subst (λ r. IfSome r (λ x. x ≡ reply)) c.in-Some.is c.requires in
    let is = c.in-Some.is ∙ ap Some told in
    rw is (end_of_borrow_recorded (assumption) c.add_end.ensures.bases c.add_end.ensures.steps
    c.add_end.ensures.tally c.add_end.ensures.standing)

pub returns-in-None : goal.returns-in-None
returns-in-None g c = λ ended. none_recorded (assumption) c.in-None.is

use Rattle.std.proofs.Common.{Ok}
use Rattle.signals.proofs.scope.Scope.alias.Goals as goal

pub returns : goal.returns
returns g c =
    let sound = g.met.S.AnyStorage.sound c.args.store.now in
    let step = c.in_ok-raw.ensures in
    let made = c.made_boxes_see_their_values.ensures in
    let owners = c.calls_leave_other_owners.ensures in rw (← c.self.view_is) (record {
      step = step;
      reached = made.referred_reach _ _ _ _ (Ok c.in_ok-raw.raw) step;
      together = made.referred_together _ _ _ _ (Ok c.in_ok-raw.raw) sound step;
      seen = made.referred _ _ _ _ (Ok c.in_ok-raw.raw) sound step;
      others = λ b apart. c.calls_leave_other_boxes.ensures.left _ _ _ _ sound step b tt apart;
      listed = λ names. owners.lists_reference _ _ _ _ (Ok c.in_ok-raw.raw) step _;
      unlisted = λ o _ has. owners.unlisted _ o _ _ sound has
          (c.boxes_and_guards_are_new.ensures.name _ _ _ _ step);
      scopes = λ o _. owners.known _ _ _ _ sound step o _;
      refused = tt;
    })

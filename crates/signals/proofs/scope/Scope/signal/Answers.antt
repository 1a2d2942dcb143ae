use Rattle.std.proofs.Common.{Ok}
use Rattle.signals.proofs.scope.Scope.signal.Goals as goal

pub returns : goal.returns
returns g c =
    let sound = g.met.S.AnyStorage.sound c.args.store.now in
    let step = c.in_ok-raw.ensures.step in
    let owners = c.calls_leave_other_owners.ensures in rw (← c.self.view_is) (record {
      step = step;
      seen = c.made_boxes_see_their_values.ensures.made_shared _ _ _ _ _ (Ok c.in_ok-raw.raw) step;
      others = λ b apart. c.calls_leave_other_boxes.ensures.left _ _ _ _ sound step b tt apart;
      listed = λ names. owners.lists_shared _ _ _ _ _ (Ok c.in_ok-raw.raw) step _;
      unlisted = λ o _ has. owners.unlisted _ o _ _ sound has
          (c.boxes_and_guards_are_new.ensures.name _ _ _ _ step);
      scopes = λ o _. owners.known _ _ _ _ sound step o _;
      refused = tt;
      back = tt;
    })

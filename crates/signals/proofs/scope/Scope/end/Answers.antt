use Rattle.std.proofs.Common.{Ok, arith}
use Rattle.signals.proofs.scope.Scope.end.Goals as goal

pub returns-in-Ok : goal.returns-in-Ok
returns-in-Ok g c =
    let sound = g.met.S.AnyStorage.sound c.args.store.now in
    let step = c.in-Ok.ensures.step in rw (← c.self.view_is) (record {
      step = step;
      ended = λ names has n. c.boxes_end_for_good.ensures.ends_owned _ _ _ (Ok tt) sound
          step _ n has (omega arith);
      others = λ names. c.calls_leave_other_boxes.ensures.unowned _ _ _ _ sound step _;
      scopes = λ o _. c.calls_leave_other_owners.ensures.known _ _ _ _ sound step o _;
      refused = tt;
      back = tt;
    })

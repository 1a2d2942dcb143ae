use Rattle.signals.proofs.signal.Signal.swap_source.Goals as goal

pub returns : goal.returns
returns g c =
    let sound = g.met.S.AnyStorage.sound c.args.store.now in
    let step = c.point_to.ensures in record {
      step = step;
      reached = c.made_boxes_see_their_values.ensures.points _ _ _ _ _ step;
      seen = c.pointed_boxes_see_what_others_saw.ensures _ _ _ _ _ sound step;
      others = λ b apart. c.calls_leave_other_boxes.ensures.left _ _ _ _ sound step b apart tt;
      scopes = λ o _. c.calls_leave_other_owners.ensures.known _ _ _ _ sound step o _ tt;
      refused = c.refused_calls_change_nothing.ensures.ends _ _ _ _ step;
    }

use Rattle.stamped_values.proofs.{put_here, put_others, put_stamped, room_others}
use Rattle.stamped_values.proofs.values.StampedValues.put.Goals as goal

pub invariant_of-self-2 : goal.invariant_of-self-2
invariant_of-self-2 g c = put_stamped _ _ _ _ _ (c.reserve.ensures.room c.if-not-reserve.false) c.reserve.ensures.rows c.self.invariant

pub returns-clause-put : goal.returns-clause-put
returns-clause-put g c = λ true. put_here _ c.self.inside.rows.items _ _ _ (c.reserve.ensures.room c.if-not-reserve.false) c.reserve.ensures.rows

pub returns-clause-others : goal.returns-clause-others
returns-clause-others g c = rw (← c.self.view_is)
    (put_others _ _ _ _ _ (c.reserve.ensures.room c.if-not-reserve.false) c.reserve.ensures.rows)

pub returns-then-not-reserve-clause-others : goal.returns-then-not-reserve-clause-others
returns-then-not-reserve-clause-others g c = λ s other. rw (← c.self.view_is) (room_others _ _ _ c.reserve.ensures.rows s)

pub returns-then-not-reserve-clause-failed : goal.returns-then-not-reserve-clause-failed
returns-then-not-reserve-clause-failed g c = λ false s. rw (← c.self.view_is) (room_others _ _ _ c.reserve.ensures.rows s)

-- Another borrow at the end.
use Rattle.store_parts.proofs.{arith, Err, IsQueue, Ok, pushed, Result, roomy}
use Rattle.store_parts.proofs.{standing_in, standing_pushed, standing_within, OnErr, ◌≡◌}
use Rattle.store_parts.proofs.queue.Queue.push.Goals as goal
use Rattle.store_parts.proofs.queue.Queue.push.Goals.{After-make_room}

-- what holds, holds if there is an error
on_err : {T E P : Type 0} (r : Result T E) → P → OnErr r P
on_err (Ok x) p = tt
on_err (Err e) p = p

room : (c : After-make_room) → IsQueue c.make_room.new.seats.items c.self.inside.live
    × (standing_in c.make_room.new.seats.items ≡ standing_in c.self.inside.seats.items)
room c = roomy _ _ _ c.self.invariant c.make_room.ensures.kept

pub invariant_of-self : goal.invariant_of-self
invariant_of-self c = (room (goal.at.invariant_of-self c).After-make_room).0

pub returns-in_err-make_room-clause-err : goal.returns-in_err-make_room-clause-err
returns-in_err-make_room-clause-err c = on_err c.from_residual.result
    (rw (← c.self.view_is) (room (goal.at.returns-in_err-make_room-clause-err c).After-make_room).1)

pub overflow_add-self : goal.overflow_add-self
overflow_add-self c =
    let count = (room (goal.at.overflow_add-self c).After-make_room).0.count in
    let seats = c.push_back_reserved.new.self in
    let within = standing_within c.make_room.new.seats.items in
    let few = c.make_room.new.seats.ok.0 in
    let end = c.push_back_reserved.ensures.len in
    omega (arith, count, within, few, end, seats.small.0, seats.small.1)

pub invariant_of-self-2 : goal.invariant_of-self-2
invariant_of-self-2 c =
    let r = room (goal.at.invariant_of-self-2 c).After-make_room in
    rw (c.push_back_reserved.ensures.items, c.new.ensures)
    (pushed _ _ c.args.borrow r.0 (rw (← c.self.view_is, ← r.1) at c.requires))

pub returns-clause-ok : goal.returns-clause-ok
returns-clause-ok c = rw (
  c.push_back_reserved.ensures.items,
  c.new.ensures,
  standing_pushed,
  ← c.self.view_is,
  (room (goal.at.returns-clause-ok c).After-make_room).1,
)

use Rattle.store_parts.proofs.{arith, resized, resized_few, vec_len, ◌≤◌}
use Rattle.store_parts.proofs.free_list.FreeList.grow.Goals as goal

pub invariant_of-self : goal.invariant_of-self
invariant_of-self c =
    let few : vec_len c.self.inside.links ≤ 4294967295 =
    omega (arith, c.self.invariant.1, c.self.inside.links.ok.0) in
    let less = resized_few _ c.args.room (vec_len c.self.inside.links) _ 4294967295
    c.extend.ensures.len (omega (arith, c.if-room.false)) few in (
      (resized _ c.args.room _ _ _ _ _ c.extend.ensures.items
          (omega (arith, c.len.ensures, c.if-room-len.false)) c.self.invariant.0).0,
      omega (arith, less, c.extend.new.links.ok.0),
    )

pub returns-clause-slots : goal.returns-clause-slots
returns-clause-slots c = rw (← c.self.view_is)
    (resized _ c.args.room _ _ _ _ _ c.extend.ensures.items
    (omega (arith, c.len.ensures, c.if-room-len.false)) c.self.invariant.0).1

use Rattle.shared_records.proofs.{is_far, is_whole, own_snoc}
use Rattle.shared_records.proofs.step_list.push_apart.Goals as goal

pub returns-in-Some-clause-kept : goal.returns-in-Some-clause-kept
returns-in-Some-clause-kept g c = (
  _,
  c.push-in-Some.ensures.items,
  rw c.len-at.ensures (is_far c.args.taken.number c.args.taken.reached c.args.long.now.items
      c.args.far.now.items c.in-Some.step c.push.ensures.items c.in-Some.ensures),
)

pub returns-in-Some-clause-own : goal.returns-in-Some-clause-own
returns-in-Some-clause-own g c own = rw c.push.ensures.items
    (own_snoc c.args.far.now.items c.in-Some.step own c.in-Some.ensures.within)

pub returns-in-None-clause-kept : goal.returns-in-None-clause-kept
returns-in-None-clause-kept g c = (
  _,
  c.push-in-None-2.ensures.items,
  rw (c.len-at-in-None.ensures, ← c.call.ensures, ← c.reply.ensures, ← c.step.ensures)
      (is_whole c.args.taken.number c.args.taken.reached c.args.long.now.items c.args.far.now.items
      c.push-in-None.ensures.items),
)

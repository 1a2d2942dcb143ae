-- A cell in a new slot.
use Rattle.store_slots.proofs.{ap, arith, free_seen, length, may_rise, one_made, pushes, state_is, ◌∙◌}
use Rattle.store_slots.proofs.slots.Slots.extend.Goals as goal

pub push-requires-clause-room : goal.push-requires-clause-room
push-requires-clause-room g c =
    let none = free_seen c.self.invariant.0 (state_is c.self.view_is) in
    let spare = ap (λ x. x.spare) c.self.view_is in
    omega (arith, c.requires.room, c.requires.none, c.self.invariant.1)

pub refer-requires : goal.refer-requires
refer-requires g c =
    let inv = c.self.invariant in
    let view = state_is c.self.view_is in
    let spare = ap (λ x. x.spare) c.self.view_is in
    let put = pushes inv.0 inv.2 view c.requires.linked _ c.args.created_at c.requires.unborrowed
    c.requires.target c.requires.none (omega (arith, c.requires.room)) in
    let rise = may_rise c.target-target.result (rw c.target-target.ensures put.uncounted) in
    rw c.push.ensures.pushed (record { within = rise.0; few = rise.1 })

pub invariant_of-self : goal.invariant_of-self
invariant_of-self g c =
    let inv = c.self.invariant in
    let view = state_is c.self.view_is in
    let spare = ap (λ x. x.spare) c.self.view_is in
    let put = pushes inv.0 inv.2 view c.requires.linked _ c.args.created_at c.requires.unborrowed
    c.requires.target c.requires.none (omega (arith, c.requires.room)) in
    let now = rw (c.push.ensures.pushed, c.target-target.ensures) at c.refer.ensures.slots in
    rw (now, put.long, one_made c.self.inside.counts _ inv.3) (
      put.table,
      rw (c.refer.ensures.rooms, c.push.ensures.rooms) inv.1,
      put.referred,
      omega (arith, inv.3),
    )

pub returns : goal.returns
returns g c =
    let inv = c.self.invariant in
    let view = state_is c.self.view_is in
    let spare = ap (λ x. x.spare) c.self.view_is in
    let put = pushes inv.0 inv.2 view c.requires.linked _ c.args.created_at c.requires.unborrowed
    c.requires.target c.requires.none (omega (arith, c.requires.room)) in
    let now = rw (c.push.ensures.pushed, c.target-target.ensures) at c.refer.ensures.slots in
    let long = ap length now ∙ put.long in
    let peak = ap (λ k. k.peak) (one_made c.self.inside.counts _ inv.3) in
    record {
      fits = rw c.len.ensures put.fits;
      added = rw (now, put.long, peak, c.len.ensures) put.added;
      room = omega (arith, spare, long);
    }

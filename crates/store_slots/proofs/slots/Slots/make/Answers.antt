-- A cell in a slot that is free, or in a new one.
use Rattle.store_slots.proofs.{ap, arith, free, free_are, free_seen, length, may_rise, nat_cmp, reuses, state_is, sym}
use Rattle.store_slots.proofs.{taken_less, taken_within, ◌∙◌}
use Rattle.std.specs.FinSet as set
use Rattle.store_slots.proofs.slots.Slots.make.Goals as goal

pub returns-then-is_err-clause-needed : goal.returns-then-is_err-clause-needed
returns-then-is_err-clause-needed g c =
    let inv = c.self.invariant in
    let none = ap set.len c.in_default.ensures.none ∙ set.len-empty nat_cmp in
    let spare = ap (λ x. x.spare) c.self.view_is in
    let same = ap set.len c.in_default.ensures.unchanged in (
      sym (free_seen inv.0 (state_is c.self.view_is)) ∙ none,
      grind (arith, spare, same, c.take.ensures.rooms, c.reserve_one.ensures.needed),
    )

pub extend-requires-clause-none : goal.extend-requires-clause-none
extend-requires-clause-none g c =
    ap free c.reserve_one.ensures.state
    ∙ (sym (free_are c.self.invariant.0)
    ∙ (ap set.len c.in_default.ensures.none ∙ set.len-empty nat_cmp))

pub extend-requires-clause-linked : goal.extend-requires-clause-linked
extend-requires-clause-linked g c =
    rw c.reserve_one.ensures.state (rw (← state_is c.self.view_is) at c.requires.linked)

pub refill-generation-requires-clause-within : goal.refill-generation-requires-clause-within
refill-generation-requires-clause-within g c = taken_within c.self.invariant.0 _ c.in-Some.ensures.member

pub refer-requires : goal.refer-requires
refer-requires g c =
    let put = reuses c.self.invariant.0 c.self.invariant.2 (state_is c.self.view_is) c.requires.linked
    _ c.args.created_at c.requires.unborrowed c.requires.target c.in-Some.ensures.member
    c.refill-generation.ensures.generation in
    let rise = may_rise c.target-target.result (rw c.target-target.ensures put.uncounted) in
    rw c.refill-generation.ensures.filled (record { within = rise.0; few = rise.1 })

pub invariant_of-self-2 : goal.invariant_of-self-2
invariant_of-self-2 g c =
    let inv = c.self.invariant in
    let put = reuses inv.0 inv.2 (state_is c.self.view_is) c.requires.linked _ c.args.created_at
    c.requires.unborrowed c.requires.target c.in-Some.ensures.member c.refill-generation.ensures.generation in
    let filled = c.refill-generation.ensures.filled in
    let now = rw (filled, c.target-target.ensures) at c.refer.ensures.slots in
    rw (now, put.long, c.in-Some.ensures.taken, c.take.ensures.rooms) (
      put.table,
      rw (c.refer.ensures.rooms, c.refill-generation.ensures.rooms) inv.1,
      put.referred,
      inv.3,
    )

pub returns-clause-ok : goal.returns-clause-ok
returns-clause-ok g c =
    let inv = c.self.invariant in
    let put = reuses inv.0 inv.2 (state_is c.self.view_is) c.requires.linked _ c.args.created_at
    c.requires.unborrowed c.requires.target c.in-Some.ensures.member c.refill-generation.ensures.generation in
    let filled = c.refill-generation.ensures.filled in
    let now = rw (filled, c.target-target.ensures) at c.refer.ensures.slots in
    let long = ap length now ∙ put.long in
    let spare = ap (λ x. x.spare) c.self.view_is in
    let less = taken_less inv.0 _ c.in-Some.ensures.member in
    let free = ap set.len c.in-Some.ensures.taken in
    record {
      fits = put.fits;
      added = rw (now, put.long) put.added;
      room = omega (arith, spare, less, free, long, c.take.ensures.rooms);
    }

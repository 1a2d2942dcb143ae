use Rattle.store_parts.proofs.{arith, chain_put_last, chain_room, last_within}
use Rattle.store_parts.proofs.{length-set, nat_cmp_total, pool_push, refl, rules}
use Rattle.std.specs.FinSet as set
use Rattle.store_parts.proofs.free_list.FreeList.put_last.Goals as goal

pub index_mut-requires : goal.index_mut-requires
index_mut-requires c =
    let within = last_within _ _ c.self.inside.count c.args.last
    (omega (arith, c.if-self-eq0.false))
    c.self.invariant.0 (rw (← c.self.view_is) at c.requires.last) in
    omega (arith, within, c.self.inside.links.ok.0)

pub overflow_add-self : goal.overflow_add-self
overflow_add-self c =
    let r = rw (← c.self.view_is) at c.requires in
    let more = chain_room _ _ _ _ c.self.invariant.0 r.room r.absent in
    omega (arith, more, c.self.inside.links.ok.0, c.self.inside.links.small)

pub invariant_of-self : goal.invariant_of-self
invariant_of-self c =
    let r = rw (← c.self.view_is) at c.requires in
    rw (
      chain_put_last _ _ c.self.inside.count _ c.args.slot (omega (arith, c.if-self-eq0.false))
          c.self.invariant.0 r.last,
      length-set,
    ) (pool_push c.self.invariant.0 r.room r.absent, c.self.invariant.1)

pub returns : goal.returns
returns c =
    let r = rw (← c.self.view_is) at c.requires in
    rw (
      ← c.self.view_is,
      chain_put_last _ _ c.self.inside.count _ c.args.slot
          (omega (arith, c.if-self-eq0.false)) c.self.invariant.0 r.last,
    ) (record {
      slots = refl;
      added = set.from_list_push nat_cmp_total set.nat_cmp-IsAntisymmetric _ c.args.slot;
      rooms = search rules;
    })

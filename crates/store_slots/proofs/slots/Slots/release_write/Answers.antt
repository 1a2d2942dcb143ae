use Rattle.store_slots.proofs.{changed_state, held_told, Here, invariant_changed, name_of_cell, not_told, ok_then}
use Rattle.store_slots.proofs.{returned, []}
use Rattle.std.proofs.Common.{rules}
use Rattle.store_slots.proofs.slots.Slots.release_write.Goals as goal

pub invariant_of-self : goal.invariant_of-self
invariant_of-self g c =
    let f = held_told c.self.view_is c.if-holds.ensures in
    let back = c.release_write.ensures in
    returned c.args.value c.release_write.result back.ok back.err
    (λ e. invariant_changed _ f.held (λ d. Here c.args.value []) c.self.invariant e back.rooms)
    (λ e. rw e c.self.invariant)

pub returns-then-holds : goal.returns-then-holds
returns-then-holds g c =
    let f = held_told c.self.view_is c.if-holds.ensures in record {
      known = rw f.seen (rw f.there at c.release_write.ensures.known);
      ok = ok_then c.release_write.result
          (changed_state _ c.self.view_is f (λ d. Here c.args.value [])) c.release_write.ensures.ok;
      err = search rules;
    }

pub returns-clause-known : goal.returns-clause-known
returns-clause-known g c =
    rw (not_told _ c.self.view_is (name_of_cell c.args.name) c.if-holds.ensures) (λ h. h, λ h. h)

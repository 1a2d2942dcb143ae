use Rattle.store_slots.proofs.{changed_state, free_in, invariant_changed, Lent, refl}
use Rattle.store_slots.proofs.slots.Slots.begin_write.Goals as goal

pub begin_write-requires : goal.begin_write-requires
begin_write-requires g c =
    let f = free_in c.self.view_is c.requires in
    record { free = rw f.there (refl, rw f.seen at c.requires) }

pub invariant_of-self : goal.invariant_of-self
invariant_of-self g c =
    let f = free_in c.self.view_is c.requires in
    invariant_changed _ f.held (λ d. Lent c.args.writer) c.self.invariant
    c.begin_write.ensures.after c.begin_write.ensures.rooms

pub returns : goal.returns
returns g c =
    let f = free_in c.self.view_is c.requires in record {
      value = rw f.seen (rw f.there at c.begin_write.ensures.value);
      after = changed_state _ c.self.view_is f (λ d. Lent c.args.writer) c.begin_write.ensures.after;
    }

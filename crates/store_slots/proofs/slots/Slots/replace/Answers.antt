use Rattle.store_slots.proofs.{changed_state, free_reached, Here, invariant_changed, name_of_cell, none_reached, []}
use Rattle.store_slots.proofs.slots.Slots.replace.Goals as goal

pub replace-requires : goal.replace-requires
replace-requires g c =
    let f = free_reached c.self.view_is c.in-Some.ensures c.requires in
    record { within = f.within; free = rw f.there f.so.1 }

pub unreachable-requires : goal.unreachable-requires
unreachable-requires g c =
    none_reached _ c.self.view_is (name_of_cell c.args.name) c.in_default.ensures c.requires

pub invariant_of-self : goal.invariant_of-self
invariant_of-self g c =
    let f = free_reached c.self.view_is c.in-Some.ensures c.requires in
    invariant_changed _ f.held (λ d. Here c.args.value []) c.self.invariant c.replace.ensures.after
    c.replace.ensures.rooms

pub returns : goal.returns
returns g c =
    let f = free_reached c.self.view_is c.in-Some.ensures c.requires in record {
      value = rw (f.so.0, f.seen) (rw f.there at c.replace.ensures.value);
      after = rw f.so.0
          (changed_state _ c.self.view_is f.place (λ d. Here c.args.value []) c.replace.ensures.after);
    }

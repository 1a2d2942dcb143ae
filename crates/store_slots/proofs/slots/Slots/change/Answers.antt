use Rattle.store_slots.proofs.{changed_state, free_reached, Here, invariant_changed, name_of_cell, none_reached, []}
use Rattle.store_slots.proofs.slots.Slots.change.Goals as goal

pub change-requires : goal.change-requires
change-requires g c =
    let f = free_reached c.self.view_is c.in-Some.ensures c.requires.free in record {
      within = f.within;
      free = rw f.there f.so.1;
      callable = λ value is. c.requires.callable value (rw (f.so.0, f.seen) (rw f.there at is));
    }

pub unreachable-requires : goal.unreachable-requires
unreachable-requires g c =
    none_reached _ c.self.view_is (name_of_cell c.args.name) c.in_default.ensures c.requires.free

pub invariant_of-self : goal.invariant_of-self
invariant_of-self g c =
    let f = free_reached c.self.view_is c.in-Some.ensures c.requires.free in
    let done = c.change.ensures.changed in
    invariant_changed _ f.held (λ d. Here done.1 []) c.self.invariant done.4 c.change.ensures.rooms

pub returns : goal.returns
returns g c =
    let f = free_reached c.self.view_is c.in-Some.ensures c.requires.free in
    let done = c.change.ensures.changed in (
      done.0,
      done.1,
      done.2,
      rw (f.so.0, f.seen) (rw f.there at done.3),
      rw f.so.0 (changed_state _ c.self.view_is f.place (λ d. Here done.1 []) done.4),
    )

use Rattle.store_slots.proofs.{arith, held_in, is_some, refl, some_if, write_refusal}
use Rattle.store_slots.proofs.slots.Slots.find_writable.Goals as goal

pub borrow_mut_error-requires : goal.borrow_mut_error-requires
borrow_mut_error-requires g c =
    (held_in c.self.view_is (some_if (λ o. is_some (write_refusal o)) _ refl c.in-Read.ensures.2)).within

pub returns-in-Ok : goal.returns-in-Ok
returns-in-Ok g c =
    let f = held_in c.self.view_is
    (some_if (λ o. is_some (write_refusal o)) _ refl c.in-Read.ensures.2) in
    (c.in-Read.ensures.0, rw f.seen (rw f.there at c.in-Ok.ensures))

pub returns-in-Err : goal.returns-in-Err
returns-in-Err g c =
    let f = held_in c.self.view_is
    (some_if (λ o. is_some (write_refusal o)) _ refl c.in-Read.ensures.2) in
    grind (arith, f.seen, f.there)

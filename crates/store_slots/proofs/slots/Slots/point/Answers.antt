-- A name that is to name another value.
use Rattle.store_slots.proofs.{arith, cell_seen, content_of, created_in, found_in, held_in, is_some, name_of_cell}
use Rattle.store_slots.proofs.{refl, some_if, sym, target_told}
use Rattle.store_slots.proofs.slots.Slots.point.Goals as goal

pub returns-then-not-holds : goal.returns-then-not-holds
returns-then-not-holds g c b =
    let seen = cell_seen _ c.self.view_is (name_of_cell c.args.name) in grind arith

pub details-requires : goal.details-requires
details-requires g c = (held_in c.self.view_is c.requires.there).within

pub returns-in_default : goal.returns-in_default
returns-in_default g c b =
    let seen = cell_seen _ c.self.view_is (name_of_cell c.args.name) in
    let there = some_if (λ o. is_some (content_of o)) _ refl c.requires.there in
    let made = created_in c.self.view_is (found_in c.self.view_is there)
    c.details.ensures.created in
    grind arith

pub details-requires-then-not-shared : goal.details-requires-then-not-shared
details-requires-then-not-shared g c = (held_in c.self.view_is c.requires.there).within

pub returns-then-not-shared : goal.returns-then-not-shared
returns-then-not-shared g c b =
    let there = some_if (λ o. is_some (content_of o)) _ refl c.requires.there in
    let made = created_in c.self.view_is (found_in c.self.view_is there)
    c.details-then-not-shared.ensures.created in
    let told = target_told _ c.self.view_is (name_of_cell c.args.name) c.in-Some.ensures in
    grind arith

pub turn-requires-clause-refers : goal.turn-requires-clause-refers
turn-requires-clause-refers g c = sym (target_told _ c.self.view_is _ c.in-Some.ensures)

pub returns : goal.returns
returns g c b =
    let told = target_told _ c.self.view_is (name_of_cell c.args.name) c.in-Some.ensures in
    grind arith

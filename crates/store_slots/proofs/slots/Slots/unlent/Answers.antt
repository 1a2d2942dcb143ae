-- The value that a box reaches, unless it is lent.
use Rattle.store_slots.proofs.{arith, led_by, name_of_cell, reached_seen, refl, sym}
use Rattle.store_slots.proofs.slots.Slots.unlent.Goals as goal

pub returns-in-None-reach-clause-err : goal.returns-in-None-reach-clause-err
returns-in-None-reach-clause-err g c =
    let none = reached_seen _ c.self.view_is (name_of_cell c.args.name) c.in-None-reach.ensures in
    rw (c.dropped.ensures, ← none) refl

pub borrow_error-requires : goal.borrow_error-requires
borrow_error-requires g c =
    let led = led_by c.self.view_is c.requires (name_of_cell c.args.name) c.match-target.shared
    (grind arith) (grind arith) in led.within

pub returns-in-None-borrow_error-clause-ok : goal.returns-in-None-borrow_error-clause-ok
returns-in-None-borrow_error-clause-ok g c =
    let led = led_by c.self.view_is c.requires (name_of_cell c.args.name) c.match-target.shared
    (grind arith) (grind arith) in
    (led.so.0, rw led.seen (sym (rw led.there at c.in-None-borrow_error.ensures)), led.so.1)

pub returns-in-Some-borrow_error-clause-err : goal.returns-in-Some-borrow_error-clause-err
returns-in-Some-borrow_error-clause-err g c =
    let led = led_by c.self.view_is c.requires (name_of_cell c.args.name) c.match-target.shared
    (grind arith) (grind arith) in
    rw (led.so.0, led.seen) (sym (rw led.there at c.in-Some-borrow_error.ensures))

-- The end of a value of its own, which is lent for that and returned.
use Rattle.store_slots.proofs.{arith, cell_seen, free_in, free_told, name_of_cell, ◌∙◌}
use Rattle.store_slots.proofs.slots.Slots.take_value.Goals as goal

pub returns-then-not-has_unborrowed_value-clause-value : goal.returns-then-not-has_unborrowed_value-clause-value
returns-then-not-has_unborrowed_value-clause-value g c =
    let seen = cell_seen _ c.self.view_is (name_of_cell c.args.name) in grind arith

pub details-requires : goal.details-requires
details-requires g c =
    let f = free_told _ c.self.view_is (name_of_cell c.args.name) c.requires
    c.has_unborrowed_value.ensures c.if-not-has_unborrowed_value.false in
    (free_in c.self.view_is f.unborrowed).within

pub begin_write-value-requires : goal.begin_write-value-requires
begin_write-value-requires g c =
    let f = free_told _ c.self.view_is (name_of_cell c.args.name) c.requires
    c.has_unborrowed_value.ensures c.if-not-has_unborrowed_value.false in
    f.unborrowed

pub remove-requires : goal.remove-requires
remove-requires g c =
    let f = free_told _ c.self.view_is (name_of_cell c.args.name) c.requires
    c.has_unborrowed_value.ensures c.if-not-has_unborrowed_value.false in
    let lent = f.lent _ in
    rw c.begin_write-value.ensures.after (record { there = lent.0; named = lent.1; alone = λ is. cc })

pub returns : goal.returns
returns g c =
    let f = free_told _ c.self.view_is (name_of_cell c.args.name) c.requires
    c.has_unborrowed_value.ensures c.if-not-has_unborrowed_value.false in record {
      value = f.value _ c.begin_write-value.ensures.value;
      free = f.hinders;
      ended = c.remove.ensures ∙ rw c.begin_write-value.ensures.after (f.lent _).2;
      none = tt;
    }

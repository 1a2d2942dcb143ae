-- The packed rows of a store are read back, and those of an earlier state are such of its slots.
use Rattle.generational_box.proofs.{made_read_back, plain}
use Rattle.store_rows.proofs.Unpacking.{past_slots}
use Rattle.generational_box.proofs.unsync.Store.pack_rows.Goals as goal

pub pack_rows-requires-clause-past : goal.pack_rows-requires-clause-past
pack_rows-requires-clause-past g c =
    past_slots (plain c.self.inside.slots.state) c.args.past _ (rw (← c.self.view_is) at c.requires)
    c.into_past-slots.ensures

pub returns-clause-back : goal.returns-clause-back
returns-clause-back g c =
    let made = c.in_ok-pack_rows.ensures in
    rw (← c.self.view_is)
    (made_read_back _ c.of.result (rw (c.of.ensures, c.in_ok-owners.ensures, made.rows)) made.back)

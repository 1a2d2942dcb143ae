-- Rows of an earlier state, of which some slots are packed again, are still such.
use Rattle.generational_box.proofs.{plain}
use Rattle.store_rows.proofs.Unpacking.{past_slots, slots_past}
use Rattle.generational_box.proofs.unsync.Store.pack_ahead.Goals as goal

pub pack_ahead-requires : goal.pack_ahead-requires
pack_ahead-requires g c =
    past_slots (plain c.self.inside.slots.state) c.args.past _ (rw (← c.self.view_is) at c.requires)
    c.into_past-slots.ensures

pub returns-clause-past : goal.returns-clause-past
returns-clause-past g c = rw (← c.self.view_is, c.of.ensures, c.into_past-slots.result.no_whole)
    (slots_past (plain c.self.inside.slots.state) _ _ _ c.in_ok-pack_ahead.ensures)

-- The packed rows of the slots, and what reads them back.
use Rattle.store_slots.proofs.{ap, past_of, rows_back, rows_seen, state_is}
use Rattle.generational_core.specs.State.{State}
use Rattle.std.proofs.lemmas.Result.{on_ok_weaker}
use Rattle.store_slots.proofs.slots.Slots.pack_rows.Goals as goal

-- the packed slots of an earlier state are those of the entries
pub pack_slots-requires-clause-past : goal.pack_slots-requires-clause-past
pack_slots-requires-clause-past g c =
    past_of c.self.inside.entries.slots c.args.self.now.state
    (ap (λ (s : State _). s.cells) (state_is c.self.view_is)) c.args.slots.now c.requires.past

pub returns-clause-rows : goal.returns-clause-rows
returns-clause-rows g c =
    on_ok_weaker c.pack_slots.result
    (λ packed. rw (← rows_seen c.self.invariant.0 (state_is c.self.view_is) c.args.number)
    packed.rows) c.pack_slots.ensures

pub returns-clause-back : goal.returns-clause-back
returns-clause-back g c =
    rows_back c.self.invariant.0 (state_is c.self.view_is) c.args.number

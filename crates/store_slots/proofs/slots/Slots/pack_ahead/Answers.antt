-- Slots packed ahead describe the state's cells.
use Rattle.store_slots.proofs.{renewed_past, state_is}
use Rattle.std.proofs.lemmas.Result.{on_ok_weaker}
use Rattle.store_slots.proofs.slots.Slots.pack_ahead.Goals as goal

pub returns : goal.returns
returns g c =
    on_ok_weaker c.pack_ahead.result
    (renewed_past c.self.invariant.0 c.args.self.now.state (state_is c.self.view_is)
    c.args.slots.now c.pack_ahead.new.slots c.requires) c.pack_ahead.ensures

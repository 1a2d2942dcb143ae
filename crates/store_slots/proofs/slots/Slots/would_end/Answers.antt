use Rattle.store_slots.proofs.{cell_seen, ending_alone, name_of_cell, state_is, ◌∙◌}
use Rattle.store_slots.proofs.slots.Slots.would_end.Goals as goal

pub would_end-requires-clause-target : goal.would_end-requires-clause-target
would_end-requires-clause-target g c =
    rw (cell_seen _ c.self.view_is (name_of_cell c.args.name)) c.requires.target

pub returns : goal.returns
returns g c =
    let view = state_is c.self.view_is in
    c.would_end.ensures ∙ rw (← view) (ending_alone c.self.inside.entries.slots
    (rw (← view) at c.requires.linked.targets) c.self.invariant.2 (name_of_cell c.args.name))

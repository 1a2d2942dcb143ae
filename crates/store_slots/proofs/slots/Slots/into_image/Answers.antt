use Rattle.std.proofs.Common.{ap, arith, refl, ◌≡◌, ◌∙◌}
use Rattle.std.specs.FinMap as map
use Rattle.store_slots.specs.SlotsState.{state_of, with_records}
use Rattle.store_slots.proofs.{slots_seen, state_is}
use Rattle.store_slots.proofs.saving.{images_whole, told_same, unborrowed_slots}
use Rattle.store_slots.proofs.slots.Slots.into_image.Goals as goal

pub take_cells-requires-clause-free : goal.take_cells-requires-clause-free
take_cells-requires-clause-free g c =
    unborrowed_slots c.self.inside.entries.slots (rw (← state_is c.self.view_is) at c.requires.free)

pub take_cells-requires-clause-room : goal.take_cells-requires-clause-room
take_cells-requires-clause-room g c =
    omega (arith, slots_seen c.self.invariant.0 (state_is c.self.view_is), c.requires.room)

pub returns-clause-state : goal.returns-clause-state
returns-clause-state g c =
    let seen : state_of c.self.inside.start c.peak-peak.result c.self.inside.entries.slots ≡ c.args.self.state =
    rw (c.peak-peak.ensures, c.len-made.ensures) (state_is c.self.view_is) in
    told_same c.self.inside.entries.slots _ c.take_cells.ensures
    ∙ ap (λ S. with_records S c.args.number map.empty c.args.next) seen

pub returns-clause-whole : goal.returns-clause-whole
returns-clause-whole g c =
    images_whole (λ v w. w ≡ v) c.self.invariant.0 _ c.take_cells.ensures
    (rw (← state_is c.self.view_is) at c.requires.linked) refl
    (rw (c.peak-peak.ensures, c.len-made.ensures) refl)

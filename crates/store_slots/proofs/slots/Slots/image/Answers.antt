use Rattle.std.proofs.Common.{refl, ◌≡◌}
use Rattle.store_slots.specs.SlotsState.{state_of}
use Rattle.store_slots.proofs.{state_is}
use Rattle.store_slots.proofs.saving.{images_whole, told_copy, unborrowed_slots}
use Rattle.store_slots.proofs.slots.Slots.image.Goals as goal

pub copy_cells-requires : goal.copy_cells-requires
copy_cells-requires g c =
    unborrowed_slots c.self.inside.entries.slots (rw (← state_is c.self.view_is) at c.requires.free)

pub returns-clause-copy : goal.returns-clause-copy
returns-clause-copy g c =
    let seen : state_of c.self.inside.start c.peak.result c.self.inside.entries.slots ≡ c.args.self.now.state =
    rw (c.peak.ensures, c.len.ensures) (state_is c.self.view_is) in
    rw (← seen) (told_copy g.T.Clone.is_clone c.self.inside.entries.slots _ c.in_ok-slots.ensures)

pub returns-clause-whole : goal.returns-clause-whole
returns-clause-whole g c =
    images_whole g.T.Clone.is_clone c.self.invariant.0 _ c.in_ok-slots.ensures
    (rw (← state_is c.self.view_is) at c.requires.linked) refl
    (rw (c.peak.ensures, c.len.ensures) refl)

use Rattle.std.proofs.Common.{refl, ◌∙◌}
use Rattle.generational_core.specs.Boxes.{name_in}
use Rattle.generational_box.proofs.images.{live_told, told_as}
use Rattle.generational_box.proofs.unsync.Store.from_image_as.Goals as goal

pub returns-in-Ok-of-clause-state : goal.returns-in-Ok-of-clause-state
returns-in-Ok-of-clause-state g c = c.fill.ensures ∙ told_as c.args.image c.args.number

pub returns-in-Ok-of-clause-adopts : goal.returns-in-Ok-of-clause-adopts
returns-in-Ok-of-clause-adopts g c id =
    let of = c.in-Ok-of.ensures in
    rw (of.saved, of.number, of.live, live_told c.args.image (name_in id)) refl

use Rattle.std.proofs.Common.{ap, refl, Some, sym, ◌∙◌}
use Rattle.example_callers.proofs.images.parsed_again.Goals as goal

pub returns : goal.returns
returns c = (c.parse_box_id.ensures _).1 (record {
  store = refl;
  slot = c.ranges.slot.fits;
  generation = c.ranges.generation.fits;
  text = c.requires;
}) ∙ ap Some (sym c.box_id.ensures)

use Rattle.std.proofs.Common.{◌∙◌}
use Rattle.generational_box.proofs.images.{same_state}
use Rattle.example_callers.proofs.images.copy_of.Goals as goal

pub returns-in-Ok-from_image : goal.returns-in-Ok-from_image
returns-in-Ok-from_image g c = c.in-Ok-from_image.ensures.state ∙ same_state _ _ c.in-Ok.ensures.copy

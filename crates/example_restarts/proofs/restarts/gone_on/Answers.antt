use Rattle.std.proofs.Common.{ap, ◌∙◌}
use Rattle.generational_box.proofs.images.{same_state}
use Rattle.generational_laws.specs.History.{plain}
use Rattle.example_restarts.proofs.restarts.gone_on.Goals as goal

pub returns-in-Ok-from_image-clause-same : goal.returns-in-Ok-from_image-clause-same
returns-in-Ok-from_image-clause-same g c =
    c.in-Ok-from_image.ensures.begun.state ∙ same_state _ _ c.in-Ok.ensures.copy

pub returns-in-Ok-from_image-clause-base : goal.returns-in-Ok-from_image-clause-base
returns-in-Ok-from_image-clause-base g c =
    c.in-Ok-from_image.ensures.begun.base ∙ ap plain (same_state _ _ c.in-Ok.ensures.copy)

use Rattle.std.proofs.Common.{◌∙◌}
use Rattle.generational_laws.proofs.callers.{same_id_sees}
use Rattle.handles.proofs.cells.peek.Goals as goal

pub returns : goal.returns
returns g c = c.peek.ensures ∙ same_id_sees _ _ _ c.pointer_to.ensures

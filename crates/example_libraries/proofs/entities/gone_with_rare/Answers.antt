use Rattle.example_libraries.proofs.{◌∙◌}
use Rattle.example_libraries.proofs.entities.gone_with_rare.Goals as goal

pub returns-clause-others : goal.returns-clause-others
returns-clause-others g c e ne = c.in-Ok.ensures.beside e ne ∙ c.attach.ensures.others e ne

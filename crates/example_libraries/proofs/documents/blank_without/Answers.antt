use Rattle.example_libraries.proofs.documents.blank_without.Goals as goal

pub returns : goal.returns
returns g c = c.is_empty.ensures.none

use Rattle.shared_state.proofs.{arith}
use Rattle.shared_state.proofs.laws.releases_tell_of_guards.Goals as goal

pub returns-clause-reader : goal.returns-clause-reader
returns-clause-reader g c number old new counts raised guard known step = grind (arith, step.state)

pub returns-clause-writer : goal.returns-clause-writer
returns-clause-writer g c number old new counts raised guard v released step =
    grind (arith, step.state)

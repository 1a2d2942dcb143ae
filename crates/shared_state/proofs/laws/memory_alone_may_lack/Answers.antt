use Rattle.shared_state.proofs.{arith}
use Rattle.shared_state.proofs.laws.memory_alone_may_lack.Goals as goal

pub returns : goal.returns
returns g c number a e ticket owner may = grind arith

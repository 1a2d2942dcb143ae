use Rattle.generational_laws.proofs.{arith, named_gives, named_shared, ref_reaches}
use Rattle.generational_laws.proofs.laws.shared_values_live_by_references.Goals as goal

pub returns : goal.returns
returns g c = grind (arith, named_gives, named_shared, ref_reaches)

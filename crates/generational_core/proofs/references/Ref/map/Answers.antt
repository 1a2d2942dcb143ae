use Rattle.std.proofs.Common.{rules}
use Rattle.generational_core.proofs.references.Ref.map.Goals as goal

pub returns : goal.returns
returns g c = (c.part.result, (c.self.inside.value, c.part.ensures, search rules), search rules)

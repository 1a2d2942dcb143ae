use Rattle.std.proofs.Common.{rules}
use Rattle.generational_core.proofs.references.Ref.try_map.Goals as goal

pub returns-in_err-value : goal.returns-in_err-value
returns-in_err-value g c =
    (c.part.result, (c.self.inside.value, c.part.ensures, search rules), search rules)

pub returns : goal.returns
returns g c = (c.part.result, (c.self.inside.value, c.part.ensures, search rules), search rules)

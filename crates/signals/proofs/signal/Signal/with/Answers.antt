use Rattle.std.proofs.Common.{sym, ap, refl, ◌∙◌}
use Rattle.std.specs.Prelude.{option_copied}
use Rattle.signals.proofs.signal.Signal.with.Goals as goal

pub returns-in-Some-clause-read : goal.returns-in-Some-clause-read
returns-in-Some-clause-read g c =
    (_, sym c.peek.ensures ∙ ap option_copied c.in-Some.is, (c.in-Some.value, c.f.ensures, refl))

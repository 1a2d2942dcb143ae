use Rattle.std.proofs.Common.{refl, rules}
use Rattle.std.specs.Fn.{FnOnceReturnsAtMut}
use Rattle.handles.proofs.map.Row.change.Goals as goal

pub returns-in-Held-clause-changed : goal.returns-in-Held-clause-changed
returns-in-Held-clause-changed g c =
    let called : FnOnceReturnsAtMut g.F.FnOnce c.args.f c.in-Held.value c.f.result c.f.new.arg2 =
    record { shown = _; shows = refl; left = _; met = c.f.ensures; leaves = refl } in
    (c.in-Held.value, c.f.new.arg2, rw (c.in-Held.is, c.if-own-generation.true) (search rules), called, rw c.in-Held.is refl)

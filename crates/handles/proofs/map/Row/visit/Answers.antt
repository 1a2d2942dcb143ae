use Rattle.std.proofs.Common.{refl, rules}
use Rattle.handles.specs.Handles.{at_slot}
use Rattle.handles.specs.Visits.{CalledOn}
use Rattle.handles.proofs.Visits.{one_changed_so}
use Rattle.handles.proofs.map.Row.visit.Goals as goal

pub returns-in-Held-clause-changed : goal.returns-in-Held-clause-changed
returns-in-Held-clause-changed g c =
    let called : CalledOn g.F.FnMut c.args.f.now c.at.result c.in-Held.value c.f.new.arg3 c.f.new.self =
    record { shown = _; shows = refl; left = _; called = c.f.ensures; leaves = refl } in
    rw (c.in-Held.is) (one_changed_so (CalledOn g.F.FnMut) _ _ _ _ _ (rw (c.at.ensures) at called))

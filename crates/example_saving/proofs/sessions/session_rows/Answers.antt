use Rattle.std.proofs.Common.{ap, map, sym, ◌∙◌}
use Rattle.std.proofs.lemmas.Iterator.Consumers.{YieldsList-end, YieldsList-from_first}
use Rattle.std.proofs.lemmas.Simd.{map-map}
use Rattle.session_table.specs.Tables.{live}
use Rattle.example_saving.specs.Logins.{seen_in}
use Rattle.example_saving.proofs.sessions.session_rows.Goals as goal

pub returns : goal.returns
returns g c =
    let all = YieldsList-end (YieldsList-from_first (λ item. (item.0.now, live item.1.now)) (λ left. left) _
    c.into_iter-id-iterator.ensures.into_iter_gives)
    c.loop-id.yielded _ c.loop-id.yielded_by _ _ c.in-None.is c.next.ensures.steps in
    c.loop-id.invariant ∙ (sym (map-map (λ e. (e.0, seen_in c.args.table.now e.1)) (λ item. (item.0.now, live item.1.now))
    c.loop-id.yielded) ∙ ap (map (λ e. (e.0, seen_in c.args.table.now e.1))) (all.0 ∙ c.sessions-id-items.ensures))

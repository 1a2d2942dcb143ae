use Rattle.reactive.proofs.Linking.{filter_keeps, filter_only, stays}
use Rattle.reactive.proofs.links.make_room.Goals as goal

pub returns-clause-kept : goal.returns-clause-kept
returns-clause-kept c = λ e h why. rw (c.reserve_exact.ensures.items, c.clean.ensures)
    (filter_keeps _ c.args.edges.now.items e (stays c.args.owners.now.items c.args.edge e why) h)

pub returns-clause-only : goal.returns-clause-only
returns-clause-only c = λ e h.
    filter_only _ c.args.edges.now.items e (rw (c.reserve_exact.ensures.items, c.clean.ensures) at h)

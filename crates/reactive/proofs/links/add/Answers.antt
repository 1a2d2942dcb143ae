use Rattle.reactive.proofs.Linking.{pushed, pushed_only}
use Rattle.reactive.proofs.{inl, inr, ⊎_elim}
use Rattle.reactive.proofs.links.add.Goals as goal

pub returns-then-make_room-clause-kept : goal.returns-then-make_room-clause-kept
returns-then-make_room-clause-kept c = λ e h why.
    pushed _ _ c.push.new.self c.args.edge e c.push.ensures.ok c.push.ensures.err (c.make_room.ensures.kept e h why)

pub returns-then-make_room-clause-only : goal.returns-then-make_room-clause-only
returns-then-make_room-clause-only c = λ e h. ⊎_elim (λ was. inl (c.make_room.ensures.only e was)) (λ is. inr is)
    (pushed_only _ _ c.push.new.self c.args.edge e c.push.ensures.ok c.push.ensures.err h)

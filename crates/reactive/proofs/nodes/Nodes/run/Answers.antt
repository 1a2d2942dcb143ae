use Rattle.reactive.proofs.{book, given_known, known_of, refl}
use Rattle.reactive.proofs.nodes.Nodes.run.Goals as goal

pub returns : goal.returns
returns g c =
    let kept = book (g.S.AnyStorage.state c.args.self.now.store) c.args.self.now.links in
    let right = c.compute-result.ensures.right (known_of kept) c.args.kept.now
    (refl, (λ k. refl), rw c.new.ensures.items refl, rw c.new.ensures.items tt) in
    (_, right.2, right.0, c.compute-result.ensures.ran, given_known kept _ right.3)

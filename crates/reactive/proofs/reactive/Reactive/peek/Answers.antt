use Rattle.reactive.proofs.{peek_means}
use Rattle.reactive.proofs.reactive.Reactive.peek.Goals as goal

pub returns-clause-means : goal.returns-clause-means
returns-clause-means g c = rw (← c.self.view_is)
    (peek_means _ _ _ c.self.invariant.kept c.args.key c.known_value.result c.known_value.ensures)

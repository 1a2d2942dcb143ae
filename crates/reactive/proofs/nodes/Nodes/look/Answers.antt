use Rattle.reactive.proofs.{arrives, none_stops, stopped, sym}
use Rattle.reactive.proofs.nodes.Nodes.look.Goals as goal

pub returns-in-Some-clause-looked : goal.returns-in-Some-clause-looked
returns-in-Some-clause-looked g c = λ G s goes. c.judge.ensures.looked G s (sym c.in-Some.ensures) goes

pub returns-in-None-clause-looked : goal.returns-in-None-clause-looked
returns-in-None-clause-looked g c = λ G s goes.
    let none = sym c.in-None.ensures in
    ((λ v d. stopped G v (rw (none_stops s c.args.key none) at d)), arrives c.args.key, none)

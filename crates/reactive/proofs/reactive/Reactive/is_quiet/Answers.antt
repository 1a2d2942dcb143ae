use Rattle.reactive.proofs.{rules, quiet_listens}
use Rattle.reactive.proofs.reactive.Reactive.is_quiet.Goals as goal

pub returns : goal.returns
returns g c = λ is s in_block. rw (← c.self.view_is)
    (quiet_listens g.T.Value.is_same _ _ _ c.self.invariant.kept s c.args.block (search rules) in_block)

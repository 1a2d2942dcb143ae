use Rattle.reactive.proofs.{kept_watch, None}
use Rattle.reactive.proofs.reactive.Reactive.watch.Goals as goal

pub invariant_of-self : goal.invariant_of-self
invariant_of-self g c = record {
  kept = kept_watch _ _ _ _ c.self.invariant.kept c.put.result _
      (record { key = c.args.key; tag = c.args.tag; told = None }) c.put.ensures.here c.put.ensures.others c.put.ensures.refused
      c.put.ensures.flagged c.put.ensures.alike;
  blamed = c.self.invariant.blamed;
}

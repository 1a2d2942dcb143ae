use Rattle.reactive.proofs.{ap, fresh_kept, fresh_stops, plan_at, refl, stamped_at, whole_cleared}
use Rattle.reactive.proofs.reactive.Reactive.new.Goals as goal

pub invariant_of-result : goal.invariant_of-result
invariant_of-result g c = whole_cleared _ _ _ _ (fresh_kept g.R.Rule.plan _ _ _ _ _ c.requires c.new-4.ensures c.new.ensures.items c.new-2.ensures.items
    c.new-3.ensures.items refl)
    (λ s. ap (λ faults. stamped_at faults s) c.new-5.ensures)

pub returns-clause-plans : goal.returns-clause-plans
returns-clause-plans g c k = ap (plan_at g.R.Rule.plan) (fresh_stops _ c.requires k)

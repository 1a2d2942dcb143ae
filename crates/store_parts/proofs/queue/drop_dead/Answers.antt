use Rattle.store_parts.proofs.{filter_from_retain, rules}
use Rattle.store_parts.proofs.queue.drop_dead.Goals as goal

pub returns : goal.returns
returns c =
    filter_from_retain _ (λ p. p.stands) (λ f p b f' called. search rules) _ _ _
    c.retain.ensures.filtered

use Rattle.reactive.proofs.Linking.{kept_by_test}
use Rattle.reactive.proofs.{rules}
use Rattle.reactive.proofs.links.clean.Goals as goal

pub returns : goal.returns
returns c = kept_by_test _ _ _ (λ x b f' y k. search rules) _ _ c.retain.ensures.filtered

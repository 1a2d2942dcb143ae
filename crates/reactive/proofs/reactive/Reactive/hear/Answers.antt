use Rattle.reactive.proofs.{ap, ◌∙◌}
use Rattle.reactive.proofs.reactive.Reactive.hear.Goals as goal

pub returns-in-Ok-clause-lasts : goal.returns-in-Ok-clause-lasts
returns-in-Ok-clause-lasts g c = λ k v h. ap (λ f. f k) c.hear_value.ensures.shown ∙ c.refresh.ensures.lasts k v h

pub returns-in-Err-clause-lasts : goal.returns-in-Err-clause-lasts
returns-in-Err-clause-lasts g c = λ k v h. ap (λ f. f k) c.hear_refusal.ensures.shown ∙ c.refresh.ensures.lasts k v h

use Rattle.document_tree.proofs.{filter_same, rules}
use Rattle.document_tree.proofs.document.Document.retain_live.Goals as goal

pub returns : goal.returns
returns g c = filter_same _ _ _ (λ x b f' k. search rules) _ _ c.retain.ensures.filtered

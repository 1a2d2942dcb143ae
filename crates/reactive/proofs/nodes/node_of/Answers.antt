use Rattle.reactive.proofs.{ap, key_pointer, same_id_sees, ◌∙◌}
use Rattle.reactive.proofs.nodes.node_of.Goals as goal

pub returns : goal.returns
returns g c = c.peek.ensures ∙ same_id_sees _ _ (key_pointer c.args.key) (ap (λ p. p.id) c.pointer_at.ensures)

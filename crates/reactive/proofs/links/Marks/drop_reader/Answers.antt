use Rattle.reactive.proofs.Linking.{known_past}
use Rattle.reactive.proofs.{arith, inl, refl, rules, sym, true≢false, ◌∙◌}
use Rattle.reactive.proofs.links.Marks.drop_reader.Goals as goal

pub returns-then-not-is_current-clause-dropped : goal.returns-then-not-is_current-clause-dropped
returns-then-not-is_current-clause-dropped c =
    inl (refl, λ current. absurd (true≢false (sym current ∙ (sym c.is_current.ensures ∙ c.if-not-is_current.true))))

pub returns-then-edge-len-clause-dropped : goal.returns-then-edge-len-clause-dropped
returns-then-edge-len-clause-dropped c = inl (refl, λ current. known_past c.args.self.now.known.items c.args.edge.slot (search (rules, arith)))

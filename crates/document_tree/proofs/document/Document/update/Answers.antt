use Rattle.document_tree.proofs.{kept_set, rewritten, rules, ◌≡◌}
use Rattle.document_tree.proofs.document.Document.update.Goals as goal

pub invariant_of-self : goal.invariant_of-self
invariant_of-self g c =
    let done = c.change_part.ensures in
    let called = done.3 in
    let places : done.1.places ≡ done.0.places = search rules in
    let site : done.1.site ≡ done.0.site = search rules in
    kept_set c.self.invariant _ done.0 done.1 done.2 places site (rewritten done.4)

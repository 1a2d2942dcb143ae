use Rattle.document_tree.proofs.Counting.{places_counted}
use Rattle.document_tree.proofs.{AreExactly, is_some, key_in, subst, sym, true, ◌≡◌}
use Rattle.document_tree.proofs.document.Document.len.Goals as goal

pub returns : goal.returns
returns g c =
    let store = g.S.AnyStorage.state c.self.inside.store in
    rw (← c.self.view_is) (subst (λ n. AreExactly n (λ id. is_some (key_in store id) ≡ true)) (sym c.len.ensures)
    (places_counted store (g.met.S.AnyStorage.sound _) c.self.invariant.simple))

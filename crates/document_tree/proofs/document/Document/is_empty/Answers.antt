use Rattle.document_tree.proofs.Counting.{none_counted, none_live, none_shown}
use Rattle.document_tree.proofs.{arith, DocumentState, IsDocumentKept, is_some, key_in, subst, true, ◌≡◌}
use Rattle.document_tree.specs.Counting.{HasPlaces}
use Rattle.document_tree.proofs.document.Document.is_empty.Goals as goal

pub returns-clause-count : goal.returns-clause-count
returns-clause-count g c = (
  λ yes. let none : c.len.result ≡ 0 = grind (arith, yes) in subst (HasPlaces c.args.self.now) none c.len.ensures,
  λ none. grind (
    arith,
    none_counted c.len.result (λ id. is_some (key_in c.args.self.now.state id) ≡ true)
        c.len.ensures none,
  ),
)

pub returns-clause-none : goal.returns-clause-none
returns-clause-none g c = (
  λ yes. let none : c.len.result ≡ 0 = grind (arith, yes) in
      none_shown c.args.self.now (subst (HasPlaces c.args.self.now) none c.len.ensures),
  λ all. let kept = subst (λ (D : DocumentState _). IsDocumentKept D.state D.parts D.sites) c.self.view_is c.self.invariant in
      grind (
        arith,
        none_counted c.len.result (λ id. is_some (key_in c.args.self.now.state id) ≡ true)
            c.len.ensures (none_live c.args.self.now kept all),
      ),
)

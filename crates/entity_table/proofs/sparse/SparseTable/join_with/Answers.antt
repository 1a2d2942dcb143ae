use Rattle.entity_table.proofs.{component_in, joined_each, joined_once, joined_sees, component_same, Some, sparse_at, sparse_place, subst, sym}
use Rattle.entity_table.proofs.{◌∙◌, ◌≡◌}
use Rattle.entity_table.specs.Components.{sparse_in}
use Rattle.handles.specs.Handles.{is_same}
use Rattle.entity_table.proofs.sparse.SparseTable.join_with.Goals as goal

pub returns-clause-shown : goal.returns-clause-shown
returns-clause-shown g c i e v w is =
    let it = joined_sees (component_in c.args.others.now) c.iter.result i e v w is in
    (it.2, subst (λ es. sparse_in es e ≡ Some w) c.iter.ensures.all (sparse_at c.iter.result e w it.0 c.iter.ensures.once it.1))

pub returns-clause-every : goal.returns-clause-every
returns-clause-every g c e v w sees has =
    let it = sparse_place c.iter.result e w (subst (λ es. sparse_in es e ≡ Some w) (sym c.iter.ensures.all) has) in
    let at = joined_each (component_in c.args.others.now) c.iter.result it.0 it.1 v w it.2
    (component_same c.args.others.now it.1 e it.3 ∙ sees) in (at.0, it.1, at.1, it.3)

pub returns-clause-once : goal.returns-clause-once
returns-clause-once g c = joined_once (component_in c.args.others.now) is_same c.iter.result c.iter.ensures.once

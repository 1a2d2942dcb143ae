use Rattle.example_libraries.proofs.Counts.{child_fewer, none_there}
use Rattle.example_libraries.proofs.{sym, ◌∙◌}
use Rattle.handles.specs.Handles.{is_same}
use Rattle.example_libraries.proofs.documents.taken_off.Goals as goal

pub returns-clause-fewer : goal.returns-clause-fewer
returns-clause-fewer g c was = child_fewer c.args.document.now c.remove_child.new.self c.args.page
    (λ p. is_same p c.args.child) c.in_ok-index.index c.in_ok-index.ensures.index c.in_ok-index.ensures.shown
    (sym c.is_some.ensures ∙ was)

pub returns-clause-none : goal.returns-clause-none
returns-clause-none g c was = none_there c.args.document.now c.remove_child.new.self c.args.page
    (λ p. is_same p c.args.child) c.in_ok-index.index c.in_ok-index.ensures.index (sym c.is_some.ensures ∙ was)

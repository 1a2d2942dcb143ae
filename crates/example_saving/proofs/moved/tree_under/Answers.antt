use Rattle.std.proofs.Common.{ap, map, Some, sym, ◌∙◌}
use Rattle.handles.specs.Handles.{id_in}
use Rattle.example_saving.proofs.{children_adopted}
use Rattle.example_saving.proofs.moved.tree_under.Goals as goal

-- the rows of the tree are the adopted ones
pub returns-in-Ok-from_parts-clause-children : goal.returns-in-Ok-from_parts-clause-children
returns-in-Ok-from_parts-clause-children c n id is = ap (map (λ i. Some i)) (sym (c.in-Ok-from_parts.ensures.children n))
    ∙ children_adopted c.in-Ok.loaded c.args.rows.now c.in_ok-rows.rows.items c.in_ok-rows.ensures id (id_in n) is

use Rattle.std.proofs.Common.{rules, ap, sym, ◌∙◌, Some}
use Rattle.example_libraries.proofs.entities.move_all.Goals as goal

pub returns-clause-moved : goal.returns-clause-moved
returns-clause-moved c e at by one two =
    let done = c.changed_pairs.ensures _ _ c.args.places.now c.for_each2_mut.new.self c.args.speeds.now c.for_each2_mut.new.other
    c.for_each2_mut.ensures.visited.1 e at by one two in
    done.6 ∙ ap Some (sym done.5.leaves.0 ∙ (search rules))

use Rattle.std.proofs.Common.{rules, ap, sym, ◌∙◌, Some}
use Rattle.example_libraries.proofs.entities.raise_all.Goals as goal

pub returns-clause-raised : goal.returns-clause-raised
returns-clause-raised c e n is =
    let done = c.changed_components.ensures.each _ _ _ _ c.for_each_mut.ensures.visited.1 e n is in
    done.6 ∙ ap Some (sym done.5.leaves ∙ (search rules))

pub returns-clause-none : goal.returns-clause-none
returns-clause-none c e is = c.changed_components.ensures.none _ _ _ _ c.for_each_mut.ensures.visited.1 e is

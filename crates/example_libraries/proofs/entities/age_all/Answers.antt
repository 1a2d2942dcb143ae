use Rattle.std.proofs.Common.{rules, ap, sym, ◌∙◌, Some}
use Rattle.example_libraries.proofs.entities.age_all.Goals as goal

pub returns : goal.returns
returns g c = record {
  aged = λ e v is.
      let done = c.changed_elements.ensures _ _ c.args.table.now c.for_each_mut.new.self c.iter.ensures.dense c.for_each_mut.ensures.visited.1 e v is in
      done.6 ∙ ap Some (sym done.5.leaves ∙ (search rules));
}

use Rattle.entity_table.proofs.{other_entities, pair_changed, pair_first, pair_others, pair_second, sym, ◌∙◌}
use Rattle.entity_table.proofs.components.ComponentTable.update2.Goals as goal

pub returns-clause-changed : goal.returns-clause-changed
returns-clause-changed g c =
    let m = c.self.inside.map in
    let ne = other_entities c.args.first c.args.second c.eq.result c.eq.ensures c.if-eq.false in
    let has_a = sym c.in-Some.ensures.taken in
    let has_b = rw (← c.self.view_is) at (sym c.contains-2.ensures ∙ c.if-not-contains-2.false) in
    let done = c.in-Some-changed.ensures.changed in
    let had = sym (pair_second m c.take.new.self c.args.first c.args.second c.in-Some.value has_a has_b ne c.in-Some.ensures.rows)
    ∙ done.2 in
    rw (← c.self.view_is) (
      (c.in-Some.value, done.0),
      (c.in-Some-changed.value, done.1),
      has_a,
      had,
      rw (done.3.shows, done.3.leaves) at done.3.met,
      pair_first m c.take.new.self c.args.first c.args.second c.in-Some.value has_a has_b ne c.in-Some.ensures.rows
          c.change-changed.new.self done.0 done.1 had done.4 c.put.new.self c.in-Some-changed.value c.put.ensures.number
          c.put.ensures.rows,
      pair_changed m c.take.new.self c.args.first c.args.second c.in-Some.value has_a has_b ne c.in-Some.ensures.rows
          c.change-changed.new.self done.0 done.1 had done.4 c.put.new.self c.in-Some-changed.value c.put.ensures.number
          c.put.ensures.rows,
    )

pub returns-clause-others : goal.returns-clause-others
returns-clause-others g c e not_first not_second =
    let m = c.self.inside.map in
    let ne = other_entities c.args.first c.args.second c.eq.result c.eq.ensures c.if-eq.false in
    let has_a = sym c.in-Some.ensures.taken in
    let has_b = rw (← c.self.view_is) at (sym c.contains-2.ensures ∙ c.if-not-contains-2.false) in
    let done = c.in-Some-changed.ensures.changed in
    let had = sym (pair_second m c.take.new.self c.args.first c.args.second c.in-Some.value has_a has_b ne c.in-Some.ensures.rows)
    ∙ done.2 in
    rw (← c.self.view_is) (pair_others m c.take.new.self c.args.first c.args.second c.in-Some.value has_a has_b ne
    c.in-Some.ensures.rows c.change-changed.new.self done.0 done.1 had done.4 c.put.new.self c.in-Some-changed.value
    c.put.ensures.number c.put.ensures.rows e not_first not_second)

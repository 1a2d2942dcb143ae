use Rattle.entity_table.proofs.{ap, is_some, kept_set, left_live, kept_dense, meets_given, meets_number, pointer_in, quiet_sees, refl, same_id_sees, set_others, sets, sym, visit_begun, visit_done, visit_more, [], ◌∙◌}
use Rattle.entity_table.proofs.table.EntityTable.for_each_mut.Goals as goal

pub loop-entity-init : goal.loop-entity-init
loop-entity-init g c = record {
  callable = c.requires;
  visited = rw (c.iter-rows.ensures) (visit_begun _ _ _ _);
  kept = c.self.invariant;
  given = λ n given. given;
  number = refl;
}

pub change_value-f-requires-clause-free : goal.change_value-f-requires-clause-free
change_value-f-requires-clause-free g c =
    let so = c.loop-entity.invariant in
    quiet_sees _ so.kept.simple.unborrowed c.pointer_to.result (g.met.S.AnyStorage.sound _)
    ∙ (ap is_some (same_id_sees _ c.pointer_to.result (pointer_in c.in-Some.entity) c.pointer_to.ensures)
    ∙ left_live _ so.kept (rw (c.in-Some.ensures.steps) at so.visited))

pub loop-entity-preserved : goal.loop-entity-preserved
loop-entity-preserved g c =
    let so = c.loop-entity.invariant in
    let sound = g.met.S.AnyStorage.sound in
    let done = c.change_value-f.ensures in
    let id = c.pointer_to.ensures in
    let set = sets c.pointer_to.result _ _ done.set in record {
      callable = done.called.met.0;
      visited = visit_more _ _ _ (rw (c.in-Some.ensures.steps) at so.visited) (kept_dense so.kept []).ordered (rw (done.called.shows, done.called.leaves) at done.called.met.1)
          (sym (same_id_sees _ c.pointer_to.result (pointer_in c.in-Some.entity) id) ∙ set.0)
          (sym (same_id_sees _ c.pointer_to.result (pointer_in c.in-Some.entity) id) ∙ set.2 c.pointer_to.result refl)
          (λ e other. set_others (sound _) so.kept.simple.plain c.pointer_to.result (pointer_in e) _ _ done.set (λ same. other (sym id ∙ same)));
      kept = kept_set (sound _) so.kept c.pointer_to.result _ _ done.set;
      given = λ n was. meets_given _ _ _ _ done.set n (so.given n was);
      number = meets_number _ _ _ _ done.set ∙ so.number;
    }

pub invariant_of-self : goal.invariant_of-self
invariant_of-self g c = c.loop-entity.invariant.kept

pub returns-clause-visited : goal.returns-clause-visited
returns-clause-visited g c = rw (← c.self.view_is) (c.loop-entity.f, visit_done _ (rw (c.in_default.ensures.steps.0) at c.loop-entity.invariant.visited))

pub returns-clause-kept : goal.returns-clause-kept
returns-clause-kept g c = rw (← c.self.view_is) (λ e was. c.loop-entity.invariant.given _ was)

pub returns-clause-tells : goal.returns-clause-tells
returns-clause-tells g c = rw (← c.self.view_is, c.loop-entity.invariant.number) (λ e. refl)

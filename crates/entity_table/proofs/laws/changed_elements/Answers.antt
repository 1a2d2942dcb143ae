use Rattle.entity_table.proofs.{all_seen, ap, id_in, refl, Entity, changed_at, pointer_in, same_id_sees, shown_each, shown_sees, sym, ◌∙◌}
use Rattle.handles.specs.Visits.{CalledOn}
use Rattle.entity_table.proofs.laws.changed_elements.Goals as goal

pub returns : goal.returns
returns g c f last old new dense so e v is =
    let row = dense.listed e (rw is refl) in
    let sees = same_id_sees old.state (pointer_in row.1) (pointer_in e) row.3 ∙ is in
    let seen = all_seen (λ (a : Entity g.row.T.Denot). a) pointer_in old.state old.rows dense.live in
    let done = changed_at (CalledOn g.F.FnMut) so row.0 row.1 v (shown_each (λ (a : Entity g.row.T.Denot). a) pointer_in old.state old.rows seen row.0 row.1 v row.2 sees) in
    let now = shown_sees (λ (a : Entity g.row.T.Denot). a) pointer_in new.state new.rows row.0 row.1 done.2 done.4 in (
      done.0,
      done.1,
      row.1,
      done.2,
      row.3,
      done.3,
      same_id_sees new.state (pointer_in e) (pointer_in now.1) (sym row.3 ∙ ap (λ (a : Entity g.row.T.Denot). id_in a) (sym now.3)) ∙ now.4,
    )

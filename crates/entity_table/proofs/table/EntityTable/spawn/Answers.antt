use Rattle.entity_table.proofs.{ap, arith, Err, given_other, IsGiven, kept_spawned, made_new}
use Rattle.entity_table.proofs.{meets_given, meets_number, meets_tells, name_in, new_within, on_err, others_left, pointer_in, refl}
use Rattle.entity_table.proofs.{refused_make, reserved_count, reserved_rows, rows_count, same_id_sees, same_value}
use Rattle.entity_table.proofs.{slice_get_within, spawned_count, still_told, subst, sym, tells_here, ◌∙◌}
use Rattle.entity_table.proofs.table.EntityTable.spawn.Goals as goal

pub returns-then-not-reserve-clause-refused : goal.returns-then-not-reserve-clause-refused
returns-then-not-reserve-clause-refused g c =
    let rows = reserved_rows g.row.T.Denot c.self.inside.rows c.reserve.new.self c.reserve.ensures.number c.reserve.ensures.same in
    rw (← c.self.view_is, rows) refl

pub returns-in_default-clause-refused : goal.returns-in_default-clause-refused
returns-in_default-clause-refused g c =
    let rows = reserved_rows g.row.T.Denot c.self.inside.rows c.reserve.new.self c.reserve.ensures.number c.reserve.ensures.same in
    rw (← c.self.view_is, rows, c.find_or_add.ensures.told) refl

pub returns-in_err-raw-clause-tells : goal.returns-in_err-raw-clause-tells
returns-in_err-raw-clause-tells g c f l told =
    let same = refused_make _ (Err c.in_err-raw.field-0.0) c.in_err-raw.ensures.step in
    rw (same, c.find_or_add.ensures.told) (rw (← c.self.view_is) at told)

pub returns-in_err-raw-clause-refused : goal.returns-in_err-raw-clause-refused
returns-in_err-raw-clause-refused g c =
    let same = refused_make _ (Err c.in_err-raw.field-0.0) c.in_err-raw.ensures.step in
    let rows = reserved_rows g.row.T.Denot c.self.inside.rows c.reserve.new.self c.reserve.ensures.number c.reserve.ensures.same in
    rw (← c.self.view_is, same, rows, c.find_or_add.ensures.told) (on_err c.from_residual.result refl)

pub handle_at-entity-requires : goal.handle_at-entity-requires
handle_at-entity-requires g c =
    let fits = new_within (g.met.S.AnyStorage.sound _) c.self.invariant _ _ c.in_ok-raw.raw c.in_ok-raw.ensures.step in
    let within = c.reserve.ensures.within (grind arith) in
    omega (arith, fits, within, c.slots-slots.ensures.count)

pub tell-requires : goal.tell-requires
tell-requires g c = let at = c.in-Ok.ensures.found in slice_get_within _ _ at.kept at.there

pub invariant_of-self-2 : goal.invariant_of-self-2
invariant_of-self-2 g c =
    let fits = new_within (g.met.S.AnyStorage.sound _) c.self.invariant _ _ c.in_ok-raw.raw c.in_ok-raw.ensures.step in
    let within = c.reserve.ensures.within (grind arith) in
    let slot = ap (λ i. i.slot) c.handle_at-entity.ensures.id in
    kept_spawned (g.met.S.AnyStorage.sound _) c.self.invariant _ _ c.in_ok-raw.raw c.in_ok-raw.ensures.step
    c.handle_at-entity.result c.handle_at-entity.ensures.id c.reserve.new.self c.put.new.self c.reserve.ensures.number
    c.reserve.ensures.same (omega (arith, fits, within, slot, c.slots-slots.ensures.count)) c.put.ensures.number c.put.ensures.rows

pub returns-clause-shown : goal.returns-clause-shown
returns-clause-shown g c =
    same_id_sees _ (pointer_in c.handle_at-entity.result) c.in_ok-raw.raw c.handle_at-entity.ensures.id
    ∙ (meets_tells _ _ _ _ c.in_ok-raw.ensures.step).1

pub returns-clause-others : goal.returns-clause-others
returns-clause-others g c f ne =
    let step = c.in_ok-raw.ensures.step in
    rw (← c.self.view_is) (others_left _ _ step c.in_ok-raw.raw (pointer_in f) (made_new _ _ _ _ step).0
    (same_value _ _ _ _ (g.met.S.AnyStorage.sound _) step _ tt) (λ one. ne (c.handle_at-entity.ensures.id ∙ one)))

pub returns-clause-left : goal.returns-clause-left
returns-clause-left g c f =
    let step = c.in_ok-raw.ensures.step in
    rw (← c.self.view_is) (λ given. same_value _ _ _ _ (g.met.S.AnyStorage.sound _) step _ tt
    (given_other _ _ _ _ (pointer_in f) step given))

pub returns-clause-spawned : goal.returns-clause-spawned
returns-clause-spawned g c =
    subst (λ id. IsGiven (g.S.AnyStorage.state c.new.new.self) (name_in id)) (sym c.handle_at-entity.ensures.id)
    ((made_new _ _ _ _ c.in_ok-raw.ensures.step).2)

pub returns-clause-here : goal.returns-clause-here
returns-clause-here g c =
    let step = c.in_ok-raw.ensures.step in
    let own = ap (λ i. i.store) c.handle_at-entity.ensures.id ∙ ((made_new _ _ _ _ step).0 ∙ sym (meets_number _ _ _ _ step)) in
    tells_here _ c.tell.new.self c.handle_at-entity.result c.args.here own
    (omega (arith, c.handle_at-entity.ensures.site, c.tell.ensures.told))
    (rw (c.tell.ensures.all, c.handle_at-entity.ensures.site) c.in-Ok.ensures.found)

pub returns-clause-tells : goal.returns-clause-tells
returns-clause-tells g c f l told =
    still_told _ _ c.find_or_add.new.self c.tell.new.self _ f l (meets_number _ _ _ _ c.in_ok-raw.ensures.step)
    c.tell.ensures.kept c.tell.ensures.all c.find_or_add.ensures.told (rw (← c.self.view_is) at told)

pub returns-clause-rows : goal.returns-clause-rows
returns-clause-rows g c =
    let fits = new_within (g.met.S.AnyStorage.sound _) c.self.invariant _ _ c.in_ok-raw.raw c.in_ok-raw.ensures.step in
    let within = c.reserve.ensures.within (grind arith) in
    let slot = ap (λ i. i.slot) c.handle_at-entity.ensures.id in
    let more = spawned_count (g.met.S.AnyStorage.sound _) c.self.invariant _ _ c.in_ok-raw.raw c.in_ok-raw.ensures.step
    c.handle_at-entity.result c.handle_at-entity.ensures.id c.reserve.new.self c.put.new.self c.reserve.ensures.number
    c.reserve.ensures.same (omega (arith, fits, within, slot, c.slots-slots.ensures.count)) c.put.ensures.number c.put.ensures.rows in
    let room = reserved_count g.row.T.Denot c.self.inside.rows c.reserve.new.self c.reserve.ensures.same in
    rw (← c.self.view_is) (omega (arith, rows_count g.row.T.Denot c.put.new.self, rows_count g.row.T.Denot c.self.inside.rows, more, room))

pub returns-clause-kept : goal.returns-clause-kept
returns-clause-kept g c f = rw (← c.self.view_is) (meets_given _ _ _ _ c.in_ok-raw.ensures.step _)

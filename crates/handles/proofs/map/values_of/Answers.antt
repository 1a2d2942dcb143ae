use Rattle.std.proofs.Common.{ap, arith, refl, sym, ◌∙◌, ◌<◌, length, Some}
use Rattle.std.proofs.lemmas.List.{length-set, take_all}
use Rattle.std.proofs.lemmas.Option.{slice_get_read}
use Rattle.generational_laws.proofs.callers.{get_set_apart}
use Rattle.handles.proofs.Maps.{room_for, values_more}
use Rattle.handles.proofs.map.values_of.Goals as goal

pub push_value-requires : goal.push_value-requires
push_value-requires g c =
    let i = c.loop-slot.invariant in
    let lt : c.loop-slot.slot < length c.loop-slot.rows.items = omega (arith, i.long, c.len-slot-end.ensures, c.loop-slot-test.true) in
    let here = slice_get_read c.loop-slot.rows.items _ c.loop-slot.slot _ refl lt c.index_mut.ensures.value
    ∙ ap Some (sym c.replace-row.ensures.value) in
    room_for g.row.T.Denot g.row.K.Denot c.args.number c.args.rows.items c.loop-slot.slot c.replace-row.result c.loop-slot.all.items _
    (sym (i.rest c.loop-slot.slot (omega arith)) ∙ here) i.values i.room

pub loop-slot-preserved : goal.loop-slot-preserved
loop-slot-preserved g c =
    let i = c.loop-slot.invariant in
    let lt : c.loop-slot.slot < length c.loop-slot.rows.items = omega (arith, i.long, c.len-slot-end.ensures, c.loop-slot-test.true) in
    let here = slice_get_read c.loop-slot.rows.items _ c.loop-slot.slot _ refl lt c.index_mut.ensures.value
    ∙ ap Some (sym c.replace-row.ensures.value) in
    record {
      values = values_more g.row.T.Denot g.row.K.Denot c.args.number c.args.rows.items c.loop-slot.slot c.replace-row.result
          c.loop-slot.all.items c.push_value.new.all.items (sym (i.rest c.loop-slot.slot (omega arith)) ∙ here) i.values
          c.push_value.ensures.pushed;
      rest = λ k after. get_set_apart c.loop-slot.rows.items c.loop-slot.slot k c.replace-row.new.dest (λ same. omega (arith, after, same))
          ∙ i.rest k (omega (arith, after));
      long = length-set c.loop-slot.rows.items c.loop-slot.slot c.replace-row.new.dest ∙ i.long;
      room = omega (arith, c.push_value.ensures.room, i.room);
    }

pub returns : goal.returns
returns g c =
    let i = c.loop-slot.invariant in
    rw (take_all c.loop-slot.slot c.args.rows.items (omega (arith, i.long, c.len-slot-end.ensures, c.loop-slot-test.false))) at i.values

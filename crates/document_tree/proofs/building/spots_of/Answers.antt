use Rattle.document_tree.proofs.{arith, cell_within, done_more, from_none, length, None, refl, slice_get, Some, spots_whole}
use Rattle.document_tree.proofs.{◌<◌, ◌∙◌, ◌≡◌}
use Rattle.std.proofs.lemmas.Option.{slice_get_read}
use Rattle.document_tree.specs.Building.{HaveParts}
use Rattle.document_tree.proofs.building.spots_of.Goals as goal

pub note-requires-clause-within : goal.note-requires-clause-within
note-requires-clause-within g c =
    let cells = c.in-Ok.cells.items in
    let lt : c.loop-at.at < length cells = omega (arith, c.len-at-end.ensures, c.loop-at-test.true) in
    let here : slice_get cells c.loop-at.at ≡ Some c.index.result.now =
    slice_get_read cells _ c.loop-at.at _ refl lt c.index.ensures in
    omega (
      arith,
      cell_within (g.met.S.AnyStorage.sound _) c.in-Ok.ensures.simple c.index.result.now
          (c.in-Ok.ensures.live c.loop-at.at c.index.result.now here).1,
      c.loop-at.invariant.length,
    )

pub note-requires-clause-live : goal.note-requires-clause-live
note-requires-clause-live g c =
    let cells = c.in-Ok.cells.items in
    let lt : c.loop-at.at < length cells = omega (arith, c.len-at-end.ensures, c.loop-at-test.true) in
    let here : slice_get cells c.loop-at.at ≡ Some c.index.result.now =
    slice_get_read cells _ c.loop-at.at _ refl lt c.index.ensures in
    (c.in-Ok.ensures.live c.loop-at.at c.index.result.now here).1

pub loop-at-preserved : goal.loop-at-preserved
loop-at-preserved g c =
    let cells = c.in-Ok.cells.items in
    let so = c.loop-at.invariant in
    let lt : c.loop-at.at < length cells = omega (arith, c.len-at-end.ensures, c.loop-at-test.true) in
    let here : slice_get cells c.loop-at.at ≡ Some c.index.result.now =
    slice_get_read cells _ c.loop-at.at _ refl lt c.index.ensures in
    let none : c.note.result ≡ None = grind arith in
    record {
      noted = from_none c.note.result _ none c.note.ensures.noted;
      listed = from_none c.note.result (HaveParts c.args.rows.now c.note.new.spots.items) none c.note.ensures.listed;
      length = c.note.ensures.length ∙ so.length;
      done = done_more cells c.loop-at.seen.items c.note.new.seen.items c.loop-at.at c.index.result.now here
          (from_none c.note.result _ none c.note.ensures.here) (from_none c.note.result _ none c.note.ensures.kept) so.done;
    }

pub returns-clause-spots : goal.returns-clause-spots
returns-clause-spots g c = spots_whole (g.met.S.AnyStorage.sound _) c.in-Ok.ensures.simple c.loop-at.spots.items c.loop-at.seen.items
    c.loop-at.invariant.noted c.in-Ok.cells.items c.loop-at.at (omega (arith, c.len-at-end.ensures, c.loop-at-test.false))
    c.in-Ok.ensures.every c.loop-at.invariant.done

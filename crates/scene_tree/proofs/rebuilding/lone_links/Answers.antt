use Rattle.scene_tree.proofs.{arith, cell_number, cell_within, held_more, held_noted, length, lone_kept, refl, slice_get, slice_get_read}
use Rattle.scene_tree.proofs.{Some, sym, ◌<◌, ◌∙◌, ◌≡◌}
use Rattle.scene_tree.proofs.rebuilding.lone_links.Goals as goal

pub note_cell-requires-clause-within : goal.note_cell-requires-clause-within
note_cell-requires-clause-within g c =
    let cells = c.in_ok-cells.cells.items in
    let lt : c.loop-at.at < length cells = omega (arith, c.len-at-end.ensures, c.loop-at-test.true) in
    let here : slice_get cells c.loop-at.at ≡ Some c.index.result.now =
    slice_get_read cells _ c.loop-at.at _ refl lt c.index.ensures in
    omega (
      arith,
      cell_within (g.S.AnyStorage.state c.args.store.now) (g.met.S.AnyStorage.sound _) c.in_ok-cells.ensures.simple
          c.index.result.now (c.in_ok-cells.ensures.live c.loop-at.at c.index.result.now here).1,
      c.loop-at.invariant.count,
    )

pub note_cell-requires-clause-number : goal.note_cell-requires-clause-number
note_cell-requires-clause-number g c =
    let cells = c.in_ok-cells.cells.items in
    let lt : c.loop-at.at < length cells = omega (arith, c.len-at-end.ensures, c.loop-at-test.true) in
    let here : slice_get cells c.loop-at.at ≡ Some c.index.result.now =
    slice_get_read cells _ c.loop-at.at _ refl lt c.index.ensures in
    cell_number (g.S.AnyStorage.state c.args.store.now) c.index.result.now
    (c.in_ok-cells.ensures.live c.loop-at.at c.index.result.now here).0 ∙ sym c.loop-at.invariant.number

pub loop-at-preserved : goal.loop-at-preserved
loop-at-preserved g c =
    let so = c.loop-at.invariant in
    let cells = c.in_ok-cells.cells.items in
    let lt : c.loop-at.at < length cells = omega (arith, c.len-at-end.ensures, c.loop-at-test.true) in
    let here : slice_get cells c.loop-at.at ≡ Some c.index.result.now =
    slice_get_read cells _ c.loop-at.at _ refl lt c.index.ensures in
    record {
      number = c.note_cell.ensures.number ∙ so.number;
      lone = c.note_cell.ensures.lone;
      count = c.note_cell.ensures.count ∙ so.count;
      held = held_more (g.S.AnyStorage.state c.args.store.now) cells c.in_ok-cells.ensures.simple c.in_ok-cells.ensures.live
          c.loop-at.at c.loop-at.links.items c.note_cell.new.links.items so.held c.index.result.now here
          (c.if-not-note_cell.ensures.noted refl) c.note_cell.ensures.others;
      told = c.note_cell.ensures.told ∙ so.told;
      all = λ i k is. c.note_cell.ensures.all i k (so.all i k is);
    }

pub returns-clause-kept : goal.returns-clause-kept
returns-clause-kept g c = lone_kept (g.S.AnyStorage.state c.args.store.now) c.loop-at.links.items
    c.in_ok-cells.ensures.simple c.loop-at.invariant.lone c.loop-at.invariant.count

pub returns-clause-noted : goal.returns-clause-noted
returns-clause-noted g c = held_noted (g.S.AnyStorage.state c.args.store.now) c.in_ok-cells.cells.items c.loop-at.links.items
    c.loop-at.invariant.lone c.loop-at.at (omega (arith, c.len-at-end.ensures, c.loop-at-test.false)) c.loop-at.invariant.held
    c.in_ok-cells.ensures.every

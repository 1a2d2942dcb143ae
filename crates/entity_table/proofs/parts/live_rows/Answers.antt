use Rattle.std.proofs.Common.{arith, length, refl, slice_get, Some, ◌<◌, ◌≡◌, ◌∙◌}
use Rattle.std.proofs.lemmas.Option.{slice_get_read}
use Rattle.entity_table.proofs.{given_kept, given_more}
use Rattle.entity_table.proofs.parts.live_rows.Goals as goal

pub loop-at-preserved : goal.loop-at-preserved
loop-at-preserved g c =
    let so = c.loop-at.invariant in
    let lt : c.loop-at.at < length c.in_ok-cells.cells.items = omega (arith, c.len-at-end.ensures, c.loop-at-test.true) in
    let here : slice_get c.in_ok-cells.cells.items c.loop-at.at ≡ Some c.index.result.now =
    slice_get_read c.in_ok-cells.cells.items _ c.loop-at.at _ refl lt c.index.ensures in
    record {
      given = given_more (g.S.AnyStorage.state c.args.store.now) c.in_ok-cells.cells.items c.in_ok-cells.ensures.simple
          c.in_ok-cells.ensures.live c.loop-at.at c.loop-at.sites.all c.put_cell.new.sites.all c.loop-at.rows c.put_cell.new.rows
          so.given c.index.result.now here (c.if-not-put_cell.ensures.put refl) c.put_cell.ensures.others c.put_cell.ensures.all;
      number = c.put_cell.ensures.number ∙ so.number;
      told = c.put_cell.ensures.told ∙ so.told;
      all = λ i k is. c.put_cell.ensures.all i k (so.all i k is);
    }

pub returns-clause-kept : goal.returns-clause-kept
returns-clause-kept g c =
    let so = c.loop-at.invariant in
    given_kept (g.S.AnyStorage.state c.args.store.now) c.in_ok-cells.cells.items c.in_ok-cells.ensures.simple
    c.in_ok-cells.ensures.live c.in_ok-cells.ensures.every (g.met.S.AnyStorage.sound _) c.loop-at.sites.all c.loop-at.rows
    so.number c.loop-at.at (omega (arith, c.len-at-end.ensures, c.loop-at-test.false)) so.given

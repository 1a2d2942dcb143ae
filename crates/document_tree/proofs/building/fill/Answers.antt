use Rattle.document_tree.proofs.{ap, arith, length, length_push, None, put_more, put_whole, read_at, subst, sym, taken_rest, ◌+◌, ◌<◌, ◌∙◌, ◌≡◌}
use Rattle.std.proofs.lemmas.List.{length-set}
use Rattle.document_tree.specs.Building.{ArePut}
use Rattle.document_tree.specs.Taking.{part_row}
use Rattle.document_tree.proofs.building.fill.Goals as goal

pub loop-index-preserved : goal.loop-index-preserved
loop-index-preserved g c =
    let so = c.loop-index.invariant in
    let n = c.loop-index.index in
    let lt : c.loop-index.index < length c.loop-index.rows.items = omega (arith, c.len-index-end.ensures, c.loop-index-test.true, so.long) in
    let here : part_row c.args.rows.items c.loop-index.index ≡ c.replace-row.result =
    sym (so.rest c.loop-index.index (omega arith))
    ∙ (read_at c.loop-index.rows.items c.loop-index.index c.index_mut.result.now None lt c.index_mut.ensures.value
    ∙ sym c.replace-row.ensures.value) in
    record {
      put = subst (λ ks. ArePut c.args.rows.items c.args.counts.now c.args.sites.now ks c.put.new.parts.slots (c.loop-index.index + 1))
          (sym c.push_reserved.ensures.items)
          (put_more c.loop-index.index c.put.result so.put so.keys c.put.new.parts.slots c.replace-row.result here c.put.ensures.put);
      rest = taken_rest c.loop-index.rows.items c.args.rows.items c.loop-index.index c.replace-row.new.dest so.rest;
      long = length-set c.loop-index.rows.items _ _ ∙ so.long;
      keys = omega (arith, ap length c.push_reserved.ensures.items, length_push c.loop-index.keys.items c.put.result, so.keys);
      few = omega (arith, c.put.ensures.len, so.few);
      parts = c.put.ensures.capacity ∙ so.parts;
      room = c.push_reserved.ensures.capacity ∙ so.room;
    }

pub returns-clause-put : goal.returns-clause-put
returns-clause-put g c = put_whole c.loop-index.index (omega (arith, c.len-index-end.ensures, c.loop-index-test.false))
    c.loop-index.invariant.put

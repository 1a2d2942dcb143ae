use Rattle.document_tree.proofs.{all_read, arith, children_in, deep_reading, limit_read, map_reverse}
use Rattle.document_tree.proofs.{read_after, reverse, rules, shallow_after}
use Rattle.document_tree.proofs.document.Document.outline_with_depth.Goals as goal
use Rattle.document_tree.proofs.document.Document.outline_with_depth.Goals.{else-loop-waiting-test}
use Rattle.document_tree.proofs.document.Document.outline_with_depth.Goals.{then-loop-waiting-test+in_default}

pub loop-waiting-preserved : goal.loop-waiting-preserved
loop-waiting-preserved g c = record {
  within = search (rules, arith);
  shallow = shallow_after (c.in-Some.depth, c.in-Some.next) c.loop-waiting.places.items _ _ _ _
      (reverse (children_in c.args.self.now c.in-Some.next)) c.in_ok-push.ensures.items
      c.in-Some.ensures.items c.in_ok-put_children_at.ensures c.loop-waiting.invariant.shallow;
  read = read_after (deep_reading c.args.self.now) c.args.limit (c.in-Some.depth, c.in-Some.next)
      _ _ _ _ _ (omega arith) c.in-Some.ensures.items c.in_ok-push.ensures.items
      (rw map_reverse at c.in_ok-put_children_at.ensures)
      c.loop-waiting.invariant.read;
}

pub returns : goal.returns
returns g c =
    let read = c.loop-waiting.invariant.read in
    elim c.loop-waiting-test.branch [
      | else-loop-waiting-test w ↦ limit_read (deep_reading c.args.self.now) c.args.limit
          c.loop-waiting.places.items _ (omega arith) read
      | then-loop-waiting-test+in_default w ↦ all_read (deep_reading c.args.self.now) c.args.limit
          c.loop-waiting.places.items c.loop-waiting.waiting.items
          (omega (arith, w.in_default.ensures.cases.0)) read
    ]

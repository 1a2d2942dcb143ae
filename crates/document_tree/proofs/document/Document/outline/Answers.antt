use Rattle.document_tree.proofs.{all_read, arith, limit_read, read_after, reading, rules}
use Rattle.document_tree.proofs.document.Document.outline.Goals as goal
use Rattle.document_tree.proofs.document.Document.outline.Goals.{else-loop-waiting-test}
use Rattle.document_tree.proofs.document.Document.outline.Goals.{then-loop-waiting-test+in_default}

pub loop-waiting-preserved : goal.loop-waiting-preserved
loop-waiting-preserved g c = record {
  within = search (rules, arith);
  read = read_after (reading c.args.self.now) c.args.limit c.in-Some.next _ _ _ _ _ (omega arith)
      c.in-Some.ensures.items c.in_ok-push.ensures.items c.in_ok-put_children.ensures
      c.loop-waiting.invariant.read;
}

pub returns : goal.returns
returns g c =
    let read = c.loop-waiting.invariant.read in
    elim c.loop-waiting-test.branch [
      | else-loop-waiting-test w ↦
          limit_read (reading c.args.self.now) c.args.limit c.loop-waiting.places.items _ (omega arith) read
      | then-loop-waiting-test+in_default w ↦
          all_read (reading c.args.self.now) c.args.limit c.loop-waiting.places.items
          c.loop-waiting.waiting.items (omega (arith, w.in_default.ensures.cases.0)) read
    ]

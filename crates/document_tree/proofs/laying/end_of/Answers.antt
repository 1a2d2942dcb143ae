use Rattle.document_tree.proofs.{past_end}
use Rattle.document_tree.proofs.laying.end_of.Goals as goal

pub returns : goal.returns
returns g c key le = past_end c.args.parts.now.slots c.iter.result c.next_back.new.self
    (c.in-Some.key, c.in-Some.field-0-1.now) c.iter.ensures.rest c.in-Some.ensures.steps key le

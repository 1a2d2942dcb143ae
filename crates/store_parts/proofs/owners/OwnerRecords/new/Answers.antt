use Rattle.store_parts.proofs.{no_places}
use Rattle.store_parts.proofs.owners.OwnerRecords.new.Goals as goal

pub invariant_of-result : goal.invariant_of-result
invariant_of-result c = rw (c.new-2.ensures.empty, c.new.ensures.items) (no_places _).sound

pub returns : goal.returns
returns c = rw c.new.ensures.items (no_places 0).owners

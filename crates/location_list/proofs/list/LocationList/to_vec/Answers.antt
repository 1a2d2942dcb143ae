use Rattle.location_list.proofs.Keys.{copied}
use Rattle.location_list.proofs.list.LocationList.to_vec.Goals as goal

pub loop-key-preserved : goal.loop-key-preserved
loop-key-preserved g c = copied c.as_slice-keys.result.now _ _ c.loop-key.key-index _ _ c.loop-key.invariant
    c.loop-key-test.true c.location.ensures c.in_ok-push.ensures.items

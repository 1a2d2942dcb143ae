use Rattle.generational_box.proofs.{arith, nat_tests, owner_of}
use Rattle.generational_box.proofs.unsync.StoreAnyStorage.ready.Goals as goal

pub returns-in-ReleaseOwner : goal.returns-in-ReleaseOwner
returns-in-ReleaseOwner g c =
    let is = c.may_end_record.ensures (owner_of c.in-ReleaseOwner.owner) in
    grind (arith, nat_tests)

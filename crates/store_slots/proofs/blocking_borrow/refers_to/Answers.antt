use Rattle.store_slots.proofs.{arith, is_name, name_test, nat_tests, reference_to}
use Rattle.store_slots.proofs.blocking_borrow.refers_to.Goals as goal

pub returns-in-Some : goal.returns-in-Some
unfolding is_name
returns-in-Some g c = grind (arith, nat_tests, reference_to, name_test)

use Rattle.generational_laws.proofs.{make_short, read_short, refer_short, referred_free}
use Rattle.generational_laws.proofs.{referred_next, share_short, shared_apart, shares}
use Rattle.generational_laws.proofs.{write_short}
use Rattle.generational_laws.proofs.caller_laws.new_boxes_take_slots_and_tickets.Goals as goal

pub returns : goal.returns
returns g c = record {
  make = λ S R. make_short;
  share = λ S R. share_short;
  shared = λ S R v l b m. let it = shares v l b m in (it.slots, it.next, it.reference);
  shared_apart = λ S R. shared_apart;
  refer = λ S R. refer_short;
  referred = λ S R. referred_next;
  referred_free = λ S R. referred_free;
  write = λ S R b l e s alone. write_short b l s alone e;
  read = λ S R b l e s alone. read_short b l s alone e;
}

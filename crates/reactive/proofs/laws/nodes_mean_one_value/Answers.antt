use Rattle.reactive.proofs.{answered_by, gives, goes_on, same, valued}
use Rattle.reactive.proofs.laws.nodes_mean_one_value.Goals as goal

pub returns : goal.returns
returns g c = record {
  one = λ G k v w d e. same G (G k) v d w e;
  alike = λ G H j k v w stays is d e. same G (G j) v d w (rw (is, ← stays) e);
  source = λ G k v is. rw is (gives v);
  sources = λ G kind k v r is h. answered_by G kind k v (valued G (G k) v is) r h;
  memo = λ G k j next a v is d e. rw is (goes_on j next a v d (rw e (gives v)));
}

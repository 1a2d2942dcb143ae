use Rattle.reactive.proofs.{Ask, gives, goes_on, plans_in, same, ◌∙◌, ◌≡◌}
use Rattle.reactive.proofs.Setting.{orders_alike, two_show}
use Rattle.reactive.proofs.laws.sets_show_in_memos.Goals as goal

pub returns : goal.returns
returns g c = record {
  one = λ old new source memo next a v w set is apart made means.
      let G = plans_in g.R.Rule.plan new in
      let asks : G memo ≡ Ask source next = set.others memo apart ∙ is in
      same G (G memo) w means v (rw asks (goes_on source next a v (rw set.here (gives a)) (rw made (gives v))));
  two = λ old mid new a b memo p x y v w first second is apart not_a not_b leads means.
      two_show g.R.Rule.plan old mid new a b memo p x y v w first second is apart not_a not_b leads means;
  orders = λ l0 l1 l2 r0 r1 r2 a b p q alike apart la lb rb ra k v w one other.
      orders_alike g.R.Rule.plan l0 l1 l2 r0 r1 r2 a b p q alike apart la lb rb ra k v w one other;
}

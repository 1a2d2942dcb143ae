use Rattle.example_histories.proofs.Common.{[], Here, hindrance_to, is_name, reach, refusal_to_read}
use Rattle.example_histories.proofs.Common.{refusal_to_write, Value, ◌#◌, ◌∷◌}
use Rattle.example_histories.proofs.Playing.{cut, plays, plays_tell}
use Rattle.example_histories.proofs.borrows.Goals as goal

pub returns : goal.returns
unfolding is_name reach refusal_to_read refusal_to_write hindrance_to
returns g c = record {
  readers = λ u v w L M R W. plays_tell _ _ _ (simp plays tt);
  shared_readers = λ u v w L M R W. plays_tell _ _ _ (simp plays tt);
  first_reader = λ u v w L M R W. plays_tell _ _ _ (simp plays tt);
  last_reader = λ u v w L M R W. plays_tell _ _ _ (simp plays tt);
  writer = λ u v w L M R W. plays_tell _ _ _ (simp plays tt);
  shared_writer = λ u v w L M R W. plays_tell _ _ _ (simp plays tt);
  new_value = λ u v w L M R W. plays_tell _ _ _ (simp plays tt);
  no_setting = λ u v w L M R W. plays_tell _ _ _ (
      cut ((0 # 1, Value (Here u []) L) ∷ []) (0 # 1 ∷ []) [] 1 1 _ _ 5 (λ rest h. simp plays h)
      (simp plays tt));
  ended_box = λ u v w L M R W. plays_tell _ _ _ (
      cut ((0 # 2, Value (Here w []) M) ∷ []) (0 # 2 ∷ 0 # 1 ∷ []) [] 0 1 _ _ 3
      (λ rest h. simp plays h) (simp plays tt));
  memory = λ u v w L M R W. plays_tell _ _ _ (
      cut ((0 # 1, Value (Here v []) L) ∷ []) (0 # 1 ∷ []) [] 1 1 _ _ 12 (λ rest h. simp plays h)
      (simp plays tt));
}

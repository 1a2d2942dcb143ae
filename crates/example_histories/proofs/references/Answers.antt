use Rattle.example_histories.proofs.Common.{[], Here, hindrance_to, is_name, reach, Ref, refusal_to_read}
use Rattle.example_histories.proofs.Common.{refusal_to_write, Shared, Value, ◌#◌, ◌∷◌}
use Rattle.example_histories.proofs.Playing.{cut, one_owner, plays, plays_tell, reader}
use Rattle.example_histories.proofs.references.Goals as goal

pub returns : goal.returns
unfolding is_name reach refusal_to_read refusal_to_write hindrance_to
returns g c = record {
  ended_boxes = λ u v w L M R W. plays_tell _ _ _ (simp plays tt);
  plain_box = λ u v w L M R W. plays_tell _ _ _ (simp plays tt);
  borrowed_last_value = λ u v w L M R W. plays_tell _ _ _ (
      cut ((0 # 1, Shared (Here v []) L) ∷ (1 # 1, Ref (0 # 1) L) ∷ (2 # 1, Shared (Here w []) M)
      ∷ (3 # 1, Ref (2 # 1) M) ∷ []) (3 # 1 ∷ 2 # 1 ∷ 1 # 1 ∷ 0 # 1 ∷ []) [] 1 4 _ _ 6
      (λ rest h. simp plays h) (simp plays tt));
  other_value = λ u v w L M R W. plays_tell _ _ _ (
      cut ((0 # 1, Shared (Here v []) L) ∷ (1 # 1, Ref (0 # 1) L) ∷ (2 # 1, Ref (0 # 1) L) ∷ [])
      (2 # 1 ∷ 1 # 1 ∷ 0 # 1 ∷ []) ((0, one_owner (1 # 1 ∷ 2 # 1 ∷ [])) ∷ []) 1 3 _ _ 3
      (λ rest h. simp plays h) (
      cut ((0 # 1, Shared (Here v []) L) ∷ (1 # 1, Ref (0 # 1) L) ∷ (2 # 1, Ref (0 # 1) L)
      ∷ (3 # 1, Shared (Here w []) M) ∷ (4 # 1, Ref (3 # 1) M) ∷ [])
      (4 # 1 ∷ 3 # 1 ∷ 2 # 1 ∷ 1 # 1 ∷ 0 # 1 ∷ []) ((0, one_owner (1 # 1 ∷ 2 # 1 ∷ []))
      ∷ (1, one_owner (4 # 1 ∷ [])) ∷ []) 2 5 _ _ 2 (λ rest h. simp plays h) (
      cut ((0 # 1, Shared (Here v []) L) ∷ (1 # 1, Ref (0 # 1) L) ∷ (2 # 1, Ref (3 # 1) L)
      ∷ (3 # 1, Shared (Here w []) M) ∷ (4 # 1, Ref (3 # 1) M) ∷ [])
      (4 # 1 ∷ 3 # 1 ∷ 2 # 1 ∷ 1 # 1 ∷ 0 # 1 ∷ []) ((0, one_owner (1 # 1 ∷ 2 # 1 ∷ []))
      ∷ (1, one_owner (4 # 1 ∷ [])) ∷ []) 4 5 _ _ 7 (λ rest h. simp plays h) (
      cut ((3 # 1, Shared (Here w []) M) ∷ (4 # 1, Ref (3 # 1) M) ∷ [])
      (4 # 1 ∷ 3 # 1 ∷ 2 # 1 ∷ 1 # 1 ∷ 0 # 1 ∷ []) ((1, one_owner (4 # 1 ∷ [])) ∷ []) 4 5 _ _ 1
      (λ rest h. simp plays h) (simp plays tt)))));
  no_reference = λ u v w L M R W. plays_tell _ _ _ (simp plays tt);
  new_location = λ u v w L M R W. plays_tell _ _ _ (
      cut ((1 # 1, Ref (2 # 1) L) ∷ (2 # 1, Shared (Here w []) M) ∷ (3 # 1, Ref (2 # 1) M) ∷ [])
      (3 # 1 ∷ 2 # 1 ∷ 1 # 1 ∷ 0 # 1 ∷ []) [] 0 4 _ _ 3 (λ rest h. simp plays h) (
      cut ((0 # 2, Value (Here v []) R) ∷ (1 # 1, Ref (2 # 1) L) ∷ (2 # 1, Shared (Here w []) M)
      ∷ (3 # 1, Ref (2 # 1) M) ∷ (4 # 1, Ref (2 # 1) M) ∷ [])
      (4 # 1 ∷ 0 # 2 ∷ 3 # 1 ∷ 2 # 1 ∷ 1 # 1 ∷ 0 # 1 ∷ []) [] 0 5 _ _ 3 (λ rest h. simp plays h)
      (simp plays tt)));
  lasting_borrow = λ u v w L M R W. plays_tell _ _ _ (
      cut ((0 # 1, Shared (Here v (reader 0 R ∷ [])) L) ∷ (1 # 1, Ref (0 # 1) L)
      ∷ (2 # 1, Ref (0 # 1) L) ∷ (3 # 1, Shared (Here w []) M) ∷ (4 # 1, Ref (3 # 1) M) ∷ [])
      (4 # 1 ∷ 3 # 1 ∷ 2 # 1 ∷ 1 # 1 ∷ 0 # 1 ∷ []) [] 1 5 _ _ 5 (λ rest h. simp plays h)
      (simp plays tt));
  first_box_listed = λ u v w L M R W. plays_tell _ _ _ (
      cut ((0 # 2, Value (Here w []) M) ∷ (1 # 1, Value (Here v []) L) ∷ [])
      (0 # 2 ∷ 1 # 1 ∷ 0 # 1 ∷ []) ((0, one_owner (1 # 1 ∷ 0 # 2 ∷ [])) ∷ []) 1 2 _ _ 5
      (λ rest h. simp plays h) (simp plays tt));
}

use Rattle.example_histories.proofs.Common.{[], contains-insert_name, fresh, Here, hindrance_to, inl, inr}
use Rattle.example_histories.proofs.Common.{is_name, Location, reach, Ref, refl, refusal_to_read}
use Rattle.example_histories.proofs.Common.{refusal_to_write, Shared, Value, ⊎_elim, ◌#◌, ◌∷◌}
use Rattle.generational_core.proofs.maps.Maps.{name_here}
use Rattle.example_histories.specs.Rows.{Tells}
use Rattle.example_histories.proofs.Playing.{cut, more_by, none_by, one_owner, plays, plays_tell, reader, rows}
use Rattle.example_histories.specs.Histories as row
use Rattle.example_histories.proofs.owners.Goals as goal

-- a name that was issued once isn't new
twice : {T : Type 0} (u v w : T) (L M R W : Location)
    → Tells (fresh 7 1 0) (row.one_name_twice u v w L M R W) → ⊥
unfolding Tells
twice {T} u v w L M R W h = cc (
  contains-insert_name (fresh {T = T} 7 1 0).given (0 # 1) (0 # 1),
  name_here (0 # 1),
  h.3.1.ungiven,
)

pub returns : goal.returns
unfolding is_name reach refusal_to_read refusal_to_write hindrance_to
returns g c =
    let none = none_by c.slots_follow_from_names.ensures.none in
    let more = more_by c.slots_follow_from_names.ensures.more in record {
      reference_outlives = λ u v w L M R W. plays_tell _ _ _ (
          cut ((0 # 1, Shared (Here v []) L) ∷ (2 # 1, Ref (0 # 1) L) ∷ []) (2 # 1 ∷ 1 # 1 ∷ 0 # 1 ∷ [])
          ((1, one_owner (2 # 1 ∷ [])) ∷ []) 2 3 _ _ 6 (λ rest h. simp plays h) (simp plays tt));
      lasting_borrow = λ u v w L M R W. plays_tell _ _ _ (
          cut ((0 # 1, Shared (Here v []) L) ∷ (1 # 1, Ref (0 # 1) L) ∷ (2 # 1, Ref (0 # 1) L) ∷ [])
          (2 # 1 ∷ 1 # 1 ∷ 0 # 1 ∷ []) ((0, one_owner (1 # 1 ∷ [])) ∷ []) 1 3 _ _ 3
          (λ rest h. simp plays h) (simp plays tt));
      release_under_a_reader = λ u v w L M R W. plays_tell _ _ _ (
          cut ((0 # 1, Value (Here v (reader 2 L ∷ [])) L) ∷ (1 # 1, Value (Here w (reader 1 R ∷ [])) M)
          ∷ []) (1 # 1 ∷ 0 # 1 ∷ []) ((0, one_owner (0 # 1 ∷ 1 # 1 ∷ [])) ∷ []) 3 2 _ _ 7
          (λ rest h. simp plays h) (simp plays tt));
      last_release = λ u v w L M R W. plays_tell _ _ _ (
          cut ((0 # 1, Value (Here v []) L) ∷ []) (0 # 1 ∷ []) ((0, one_owner (0 # 1 ∷ [])) ∷ [])
          2 1 _ _ 4 (λ rest h. simp plays h) (simp plays tt));
      leaked_clone = λ u v w L M R W. plays_tell _ _ _ (simp plays tt);
      last_ticket = λ u v w L M R W. plays_tell _ _ _ (simp plays tt);
      second_last_ticket = λ u v w L M R W. plays_tell _ _ _ (simp plays tt);
      strange_boxes = λ u v w L M R W. plays_tell _ _ _ (simp plays tt);
      strange_owners = λ u v w L M R W. plays_tell _ _ _ (simp plays tt);
      last_reference = λ u v w L M R W. plays_tell _ _ _ (
          cut ((0 # 1, Shared (Here v (reader 0 R ∷ [])) L) ∷ (2 # 1, Ref (0 # 1) L) ∷ [])
          (2 # 1 ∷ 1 # 1 ∷ 0 # 1 ∷ []) [] 1 3 _ _ 5 (λ rest h. simp plays h) (simp plays tt));
      free_slot = λ u v w L M R W. plays_tell _ _ _ (simp (rows, none, more) tt);
      last_generation = λ u v w L M R W. plays_tell _ _ _ (simp plays tt);
      next_generation_fits = λ u v w L M R W. inr (simp plays, simp plays, simp plays);
      no_new_slot_fits = λ u v w L M R W h.
          ⊎_elim (λ l. cc (simp plays at l.0)) (λ r. cc (simp plays at r.0)) h;
      new_slot_fits = λ u v w L M R W. inl (simp plays, simp plays, refl);
      no_name_twice = twice;
      no_other_name_fits = λ u v w L M R W h.
          ⊎_elim (λ l. cc (simp plays at l.1)) (λ r. cc (simp plays at r.1)) h;
    }

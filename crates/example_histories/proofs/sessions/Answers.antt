use Rattle.example_histories.proofs.Common.{[], Here, hindrance_to, is_name, Nothing, owner, reach, refl}
use Rattle.example_histories.proofs.Common.{refusal_to_read, refusal_to_write, Value, ◌#◌, ◌∷◌}
use Rattle.generational_sessions.specs.Session.Held.{Boxed, Owning}
use Rattle.example_histories.specs.Rows.{box}
use Rattle.example_histories.proofs.Playing.{one_owner, plays}
use Rattle.example_histories.proofs.Replying.{cut, plays_reply, replying}
use Rattle.example_histories.proofs.sessions.Goals as goal

pub returns : goal.returns
unfolding is_name reach refusal_to_read refusal_to_write hindrance_to
returns g c = record {
  places = λ u v w L M R W. plays_reply _ (
      cut ((0 # 1, Value (Here v []) L) ∷ []) (0 # 1 ∷ []) ((0, one_owner (0 # 1 ∷ [])) ∷ []) 2 1
      (Owning (owner 0) ∷ Boxed (box (0 # 1) L) ∷ Nothing ∷ Nothing ∷ Nothing ∷ []) _ _ 5
      (λ rest h. simp (replying, plays) h) (
      cut ((0 # 1, Value (Here w []) L) ∷ []) (0 # 1 ∷ []) ((0, one_owner (0 # 1 ∷ [])) ∷ []) 3 1
      (Owning (owner 0) ∷ Boxed (box (0 # 1) L) ∷ Nothing ∷ Nothing ∷ Nothing ∷ Nothing ∷ Nothing
      ∷ Nothing ∷ Nothing ∷ []) _ _ 4 (λ rest h. simp (replying, plays) h)
      (simp (replying, plays) tt)));
  last_first = λ u v w L M R W. plays_reply _ (
      cut [] (1 # 1 ∷ 0 # 1 ∷ []) [] 0 2 (Boxed (box (0 # 1) L) ∷ Boxed (box (1 # 1) M) ∷ Nothing
      ∷ Nothing ∷ []) _ _ 4 (λ rest h. simp (replying, plays) h) (simp (replying, plays) tt));
  oldest_first = λ u v w L M R W. plays_reply _ (
      cut [] (1 # 1 ∷ 0 # 1 ∷ []) [] 0 2 (Boxed (box (0 # 1) L) ∷ Boxed (box (1 # 1) M) ∷ Nothing
      ∷ Nothing ∷ []) _ _ 4 (λ rest h. simp (replying, plays) h) (simp (replying, plays) tt));
  same_calls = λ u v w L M R W. refl;
  same_replies = λ u v w L M R W. refl;
}

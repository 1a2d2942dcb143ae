-- What the value of a known node came from.
use Rattle.reactive.proofs.Graphs.{AllMean, Asked, Book, Follows, Give, Graph, graph_of, GraphState, IsGraphKept, IsSound, Key, Node, Plan, Web}
use Rattle.reactive.proofs.Graphs.{DirtySlots, known_at, known_by, known_node, knows, nodes_in, plans_in, shown_in, some_live}
use Rattle.reactive.proofs.Graphs.{ap, is_some, List, None, Option, Some, sym, true, vec_items, ℕ, [], ⊎_elim, ◌∙◌, ◌∷◌, ◌≡◌}
use Rattle.reactive.specs.Reading.{CameFrom}

no_reads : {T : Type 0} (G : Graph T) (v w : T) (answers : List (Asked T)) → Follows (Give v) answers (Give w) → AllMean G answers
no_reads G v w [] leads = tt
no_reads G v w (a ∷ rest) leads = absurd leads

module _ {T R : Type 0} {plan : R → Plan T} where
  source_from : (G : Graph T) (now : ℕ) (b : Book T R) → IsSound plan G now b → (k : Key) (n : Node T R) (v : T)
      → b.nodes k ≡ Some n → n.value ≡ Some v → n.rule ≡ None → CameFrom G k (vec_items n.reads) v
  source_from G now b s k n v at has none =
      let w = s.walks k n at v has in
      let e : graph_of plan b.nodes k ≡ Give v = cc in
      let plain : G k ≡ Give v = sym (s.same k) ∙ e in record {
        answers = w.answers;
        asked = w.asked;
        leads = w.leads;
        mean = no_reads G v v w.answers (rw plain at w.leads);
      }

  memo_from : (G : Graph T) (now : ℕ) (b : Book T R) → IsSound plan G now b → (k : Key) (n : Node T R) (v : T)
      → b.nodes k ≡ Some n → n.value ≡ Some v → knows b.known k ≡ true → CameFrom G k (vec_items n.reads) v
  memo_from G now b s k n v at has is =
      let h = s.held k n at is v has in record {
        answers = h.answers;
        asked = h.asked;
        leads = h.leads;
        mean = h.mean;
      }

  pub reads_known : (now : GraphState T R) (dirty : DirtySlots) (web : Web) → IsGraphKept plan now dirty web
      → (k : Key) (n : Node T R) → nodes_in now.state k ≡ Some n
      → is_some (known_by (knows (known_at now.known) k) (Some n)) ≡ true
      → (v : T) × (shown_in now k ≡ Some v) × CameFrom (plans_in plan now) k (vec_items n.reads) v
  reads_known now dirty web kept k n at hit =
      let v = some_live (known_by (knows (known_at now.known) k) (Some n)) hit in
      let known = known_node (knows (known_at now.known) k) n v.0 v.1 in (
        v.0,
        ap (known_by (knows (known_at now.known) k)) at ∙ v.1,
        ⊎_elim
            (λ none. source_from _ _ _ kept.sound k n v.0 at known.0 none)
            (λ is. memo_from _ _ _ kept.sound k n v.0 at known.0 is)
            known.1,
      )

-- What nodes mean after sources were set.
use Rattle.reactive.proofs.Graphs.{AllHear, AllMean, Asked, Contains, Effect, Fault, Follows, Give, Yields, gives, goes_on, Graph, GraphState}
use Rattle.reactive.proofs.Graphs.{Hears, Key, key_cases, Kind, Listens, Means, Plan, plans_in, same, Says, telling, Told, walked}
use Rattle.reactive.proofs.Graphs.{ap, arith, Bool, Err, inl, inr, List, None, Ok, Option, Result, Some, subst, suc, sym, zero}
use Rattle.reactive.proofs.Graphs.{ℕ, [], ⊎_elim, ◌++◌, ◌∙◌, ◌∷◌, ◌≡◌, ◌≢◌}
use Rattle.std.proofs.lemmas.List.Elements.{Contains-append_cases}
use Rattle.reactive.specs.declared.fault.Fault.TheVariants as fault
use Rattle.reactive.specs.Graphs.{HasPlan}

-- what a plan yields in a graph, it yields in one that has the same plans
module _ {T : Type 0} (G H : Graph T) (alike : (k : Key) → G k ≡ H k) where
  gives_alike : (p : Plan T) (v : T) → Yields G p v → Yields H p v
  gives_alike _ _ (gives v) = gives v
  gives_alike _ _ (goes_on k next a v d e) =
      goes_on k next a v (subst (λ p. Yields H p a) (alike k) (gives_alike (G k) a d)) (gives_alike (next a) v e)

module _ {T R : Type 0} (plan : R → Plan T) where
  pub two_show : (old mid new : GraphState T R) (a b memo : Key) (p : Plan T) (x y v w : T)
      → HasPlan plan old a (Give x) mid → HasPlan plan mid b (Give y) new → plans_in plan old memo ≡ p
      → a ≢ b → memo ≢ a → memo ≢ b → Follows p (record { key = a; value = x } ∷ record { key = b; value = y } ∷ []) (Give v)
      → Means (plans_in plan new) memo w → w ≡ v
  two_show old mid new a b memo p x y v w first second is apart not_a not_b leads means =
      let at : plans_in plan new memo ≡ p = second.others memo not_b ∙ (first.others memo not_a ∙ is) in
      let one : plans_in plan new a ≡ Give x = second.others a apart ∙ first.here in
      let answers : List (Asked T) = record { key = a; value = x } ∷ record { key = b; value = y } ∷ [] in
      let all : AllMean (plans_in plan new) answers = (rw one (gives x), (rw second.here (gives y), tt)) in
      same (plans_in plan new) (plans_in plan new memo) w means v
      (rw at (walked (plans_in plan new) p answers (Give v) v leads all (gives v)))

  module _ (l0 l1 l2 r0 r1 r2 : GraphState T R) (a b : Key) (p q : Plan T)
      (alike : plans_in plan l0 ≡ plans_in plan r0) (apart : a ≢ b)
      (la : HasPlan plan l0 a p l1) (lb : HasPlan plan l1 b q l2) (rb : HasPlan plan r0 b q r1) (ra : HasPlan plan r1 a p r2) where
    same_at : (k : Key) → plans_in plan l2 k ≡ plans_in plan r2 k
    same_at k = ⊎_elim
        (λ is. rw is (lb.others a apart ∙ (la.here ∙ sym ra.here)))
        (λ not_a. ⊎_elim
        (λ is. rw is (lb.here ∙ sym (ra.others b (λ e. apart (sym e)) ∙ rb.here)))
        (λ not_b. lb.others k not_b ∙ (la.others k not_a ∙ (ap (λ G. G k) alike
        ∙ sym (ra.others k not_a ∙ rb.others k not_b))))
        (key_cases k b))
        (key_cases k a)

    pub orders_alike : (k : Key) (v w : T) → Means (plans_in plan l2) k v → Means (plans_in plan r2) k w → v ≡ w
    orders_alike k v w one other =
        let over = gives_alike (plans_in plan l2) (plans_in plan r2) same_at (plans_in plan l2 k) v one in
        same (plans_in plan r2) (plans_in plan r2 k) v (subst (λ p. Yields (plans_in plan r2) p v) (same_at k) over) w other

-- ==== a value that a flush reports is what its node means

module _ {T : Type 0} where
  in_none : (t : Told T) → Contains [] t → ⊥
  in_none t (k, lt, is) = absurd (omega (arith, lt))

  in_one : (t u : Told T) → Contains (t ∷ []) u → t ≡ u
  in_one t u (zero, lt, is) = is
  in_one t u (suc k, lt, is) = absurd (omega (arith, lt))

module _ {T : Type 0} (same : T → T → Bool) (G : Graph T) (kind : Key → Kind) where
  heard_value : (e f : Effect T) (a : Result T Fault) (one : List (Told T)) (t : Told T) (v : T) → Says G kind e.key a
      → Hears same e a f one → Contains one t → t.answer ≡ Ok v → Means G t.key v
  heard_value e f a [] t v says h there is = absurd (in_none t there)
  heard_value e f a (u ∷ []) t v says (new, was, told) there is =
      let it : t ≡ telling e a = sym (in_one u t there) ∙ told in
      let answer : a ≡ Ok v = sym (ap (λ x. x.answer) it) ∙ is in
      subst (λ k. Means G k v) (sym (ap (λ x. x.key) it)) (rw answer at says)
  heard_value e f a (u ∷ w ∷ rest) t v says h there is = absurd h

  listened_told : (o p : Option (Effect T)) (one : List (Told T)) (t : Told T) (v : T) → Listens same G kind o p one
      → Contains one t → t.answer ≡ Ok v → Means G t.key v
  listened_told None p one t v h there is = absurd (in_none t (subst (λ xs. Contains xs t) h.1 there))
  listened_told (Some e) (Some p) one t v (live, (a, says, hears)) there is = heard_value e p a one t v says hears there is
  listened_told (Some e) None one t v h there is =
      let it = in_one (telling e (Err (fault.Gone e.key))) t (subst (λ xs. Contains xs t) h.1 there) in
      let e : Err (fault.Gone e.key) ≡ Ok v = ap (λ x. x.answer) it ∙ is in cc

  pub told_means : (n : ℕ) (t : Told T) (v : T) (old new : List (Option (Effect T))) (told : List (Told T))
      → AllHear same G kind n old new told → Contains told t → t.answer ≡ Ok v → Means G t.key v
  told_means zero t v old new told (stays, none) there is = absurd (in_none t (subst (λ xs. Contains xs t) none there))
  told_means (suc n) t v (o ∷ old) (p ∷ new) told (one, rest, e, listens, h) there is = ⊎_elim
      (λ first. listened_told o p one t v listens first is)
      (λ later. told_means n t v old new rest h later is)
      (Contains-append_cases one rest t (subst (λ xs. Contains xs t) e there))
  told_means (suc n) t v old new told h there is = absurd h

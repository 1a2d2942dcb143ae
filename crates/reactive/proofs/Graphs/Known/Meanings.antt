-- What nodes mean, and that a key is one.
pub mod Common
unfoldable pub use Common.*

-- ==== keys are distinguished

pub key_cases : (j k : Key) → (j ≡ k) ⊎ (j ≢ k)
key_cases j k = grind (arith, cases_eq)

-- ==== a node means at most one value, a node on a cycle means none, results that are meant may replace
-- reads, and a new node doesn't change what others mean

module _ {T : Type 0} where
  -- a plan that some results follow reads the first, and the others follow its continuation
  pub first_asked : (p : Plan T) (a : Asked T) (rest : List (Asked T)) (q : Plan T) → Follows p (a ∷ rest) q
      → (next : T → Plan T) × (p ≡ Ask a.key next) × Follows (next a.value) rest q
  first_asked p a rest q f = grind arith

  -- and asks for each later one after those before it
  pub asked_to : (p : Plan T) (answers : List (Asked T)) (place : ℕ) (a : Asked T) (q : Plan T)
      → Follows p answers q → slice_get answers place ≡ Some a
      → (next : T → Plan T) × Follows p (take place answers) (Ask a.key next)
  asked_to p [] place a q f is = absurd (none-some a is)
  asked_to p (b ∷ rest) zero a q f is = let n = first_asked p b rest q f in (n.0, rw (← same_Some b a is) n.1)
  asked_to p (b ∷ rest) (suc place) a q f is =
      let n = first_asked p b rest q f in
      let got = asked_to (n.0 b.value) rest place a q n.2 is in
      (got.0, subst (λ x. Follows x (b ∷ take place rest) (Ask a.key got.0)) (sym n.1) (refl, got.1))

  -- a plan that reads this node, yields this value, or fails
  abbrev pub Comes : Option Key → Option T → Plan T → Type 0
  Comes (Some k) result q = (next : T → Plan T) × (q ≡ Ask k next)
  Comes None (Some v) q = q ≡ Give v
  Comes None None q = q ≡ Stop

  -- where a run's results lead
  pub ran_to : (p : Plan T) (answers : List (Asked T)) (lacks : Option Key) (result : Option T)
      → Ran p answers lacks result → (q : Plan T) × Follows p answers q × Comes lacks result q
  ran_to (Give v) [] l r h = (Give v, refl, rw (h.0, h.1) refl)
  ran_to Stop [] l r h = (Stop, refl, rw (h.0, h.1) refl)
  ran_to (Ask k next) [] l r h = (Ask k next, refl, rw h (next, refl))
  ran_to (Ask k next) (a ∷ rest) l r h = grind (arith, ran_to (next a.value) rest l r h.1)
  ran_to p (a ∷ rest) l r h = absurd h

-- each of some nodes needs one of them: they are on a cycle, or reach one
abbrev pub IsCyclic : {T : Type 0} → Graph T → (Key → Type 0) → Type 0
IsCyclic G C = (j : Key) → C j → (k : Key) × C k × Needs G j k

module _ {T : Type 0} (G : Graph T) where
  -- a plan yields at most one value, so a node means at most one
  pub same : (p : Plan T) (v : T) → Yields G p v → (w : T) → Yields G p w → v ≡ w
  same _ _ (gives v) w (gives _) = refl
  same _ _ (goes_on k next a v d e) w (goes_on _ _ b _ f g) =
      same (next b) v (rw (same (G k) a d b f) at e) w g

  -- what is left of a plan by the values of sources it yields
  from_source : (k : Key) (next : T → Plan T) (v : T) (p : Plan T) → G k ≡ p
      → ((a : T) → plan_value G (next a) ≡ Some v → Yields G (next a) v)
      → value_from p (λ a. plan_value G (next a)) ≡ Some v → Yields G (Ask k next) v
  from_source k next v (Give a) at on is = goes_on k next a v (rw at (gives a)) (on a is)
  from_source k next v Stop at on is = absurd (none-some v is)
  from_source k next v (Ask j more) at on is = absurd (none-some v is)

  pub valued : (p : Plan T) (v : T) → plan_value G p ≡ Some v → Yields G p v
  valued (Give a) v is = rw (same_Some a v is) (gives v)
  valued Stop v is = absurd (none-some v is)
  valued (Ask k next) v is = from_source k next v (G k) refl (λ a. valued (next a) v) is

  -- a result is the value that a node means
  pub answered_by : (kind : Key → Kind) (k : Key) (v : T) → Means G k v
      → (r : Result T Fault) → Answers G kind k r → IfOk r (λ w. w ≡ v)
  answered_by kind k v d (Ok w) h = same (G k) w h v d
  answered_by kind k v d (Err f) h = tt

  -- a plan yields what its rest yields, after results that are meant
  pub walked : (p : Plan T) (answers : List (Asked T)) (q : Plan T) (v : T)
      → Follows p answers q → AllMean G answers → Yields G q v → Yields G p v
  walked p [] q v e all h = rw e h
  walked p (a ∷ rest) q v f (m, all) h =
      let n = first_asked p a rest q f in
      rw n.1 (goes_on a.key n.0 a.value v m (walked (n.0 a.value) rest q v n.2 all h))

  -- what is in a derivation of a plan that reads
  inside : (k : Key) (next : T → Plan T) (v : T) → Yields G (Ask k next) v
      → (a : T) × Means G k a × Yields G (next a) v
  inside _ _ _ (goes_on k next a v d e) = (a, d, e)

  -- and the other way round
  left : (p : Plan T) (answers : List (Asked T)) (q : Plan T) (v : T)
      → Follows p answers q → AllMean G answers → Yields G p v → Yields G q v
  left p [] q v e all h = rw e at h
  left p (a ∷ rest) q v f (m, all) h =
      let n = first_asked p a rest q f in
      let got = inside a.key n.0 v (rw n.1 at h) in
      left (n.0 a.value) rest q v n.2 all (rw (same (G a.key) got.0 got.1 a.value m) at got.2)

  pub stopped : (v : T) → Yields G Stop v → ⊥
  stopped v h = grind arith

  -- a node whose rule failed means nothing; nor does one that needs a node which means nothing
  pub gave_up : (j : Key) (answers : List (Asked T)) → AllMean G answers → Follows (G j) answers Stop
      → IsMute G j
  gave_up j answers all f v d = stopped v (left (G j) answers Stop v f all d)

  pub needs_mute : (j k : Key) → Needs G j k → IsMute G k → IsMute G j
  needs_mute j k needs mute v d = grind (arith, inside, left)

  -- a node on a cycle means nothing
  module _ (C : Key → Type 0) (cyclic : IsCyclic G C) where
    around : (p : Plan T) (v : T) → Yields G p v → (answers : List (Asked T)) (k : Key) (next : T → Plan T)
        → C k → AllMean G answers → Follows p answers (Ask k next) → ⊥
    around _ _ (gives v) [] k next c all f = cc
    around _ _ (gives v) (a ∷ rest) k next c all f = f
    around _ _ (goes_on j m a v d e) [] k next c all f =
        let is : k ≡ j = cc in
        let on = cyclic j (rw is at c) in around (G j) a d on.2.0 on.0 on.2.1 on.1 on.2.2 on.2.3
    around _ _ (goes_on j m a v d e) (b ∷ rest) k next c (mean, all) (is, f) =
        around (m a) v e rest k next c all
        (rw (← same (G j) a d b.value (rw (← is) at mean)) at f)

    pub cyclic_mute : (j : Key) → C j → IsMute G j
    cyclic_mute j c v d = let on = cyclic j c in around (G j) v d on.2.0 on.0 on.2.1 on.1 on.2.2 on.2.3

-- if a plan replaces one that failed, what meant something still means it
module _ {T : Type 0} (G H : Graph T) (more : (k : Key) → (G k ≡ Stop) ⊎ (G k ≡ H k)) where
  more_at : (k : Key) (v : T) → Means G k v → Yields H (G k) v → Means H k v
  more_at k v d h = ⊎_elim (λ stops. absurd (stopped G v (rw stops at d))) (λ e. rw e at h) (more k)

  grown : (p : Plan T) (v : T) → Yields G p v → Yields H p v
  grown _ _ (gives v) = gives v
  grown _ _ (goes_on k next a v d e) = goes_on k next a v (more_at k a d (grown (G k) a d)) (grown (next a) v e)

  pub grown_all : (answers : List (Asked T)) → AllMean G answers → AllMean H answers
  grown_all [] all = tt
  grown_all (a ∷ rest) (d, all) = (more_at a.key a.value d (grown (G a.key) a.value d), grown_all rest all)

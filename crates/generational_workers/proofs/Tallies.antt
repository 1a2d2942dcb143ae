-- The tallies of a run, one for each worker and one more, and what becomes of them.
use Rattle.std.proofs.Common.{◌≡◌, ℕ, zero, suc, ◌+◌, ◌<◌, ◌∙◌, sym, refl, ap, subst, arith}
use Rattle.std.proofs.Common.{List, [], ◌∷◌, ◌++◌, map, length, All, slice_index_or}
use Rattle.std.proofs.Common.{length-append, append_assoc, add-one}
use Rattle.std.proofs.lemmas.Grind.{common_steps}
use Rattle.std.proofs.lemmas.List.{map-append, length-map}
use Rattle.std.proofs.lemmas.List.Elements.{All-append, All-cons}
use Rattle.shared_records.specs.declared.step.Step.{Step}
use Rattle.generational_workers.specs.Runs.{HaveServed, IsRun, all_merged}
use Rattle.shared_history.specs.Bases.{BaseState, IsTallied}
use Rattle.shared_history.specs.Counts.{Counts, new_tally, new_tallies}

-- lists that are the same, each with another element at its end, were the same
snoc_same : {A : Type 0} (xs ys : List A) (a b : A) → xs ++ a ∷ [] ≡ ys ++ b ∷ []
    → (xs ≡ ys) × (a ≡ b)
snoc_same [] [] a b e = (refl, grind (arith, common_steps))
snoc_same [] (y ∷ []) a b e = absurd (grind (arith, common_steps))
snoc_same [] (y ∷ z ∷ ys) a b e = absurd (grind (arith, common_steps))
snoc_same (x ∷ []) [] a b e = absurd (grind (arith, common_steps))
snoc_same (x ∷ z ∷ xs) [] a b e = absurd (grind (arith, common_steps))
snoc_same (x ∷ xs) (y ∷ ys) a b e =
    let tails : xs ++ a ∷ [] ≡ ys ++ b ∷ [] = grind (arith, common_steps) in
    let heads : x ≡ y = grind (arith, common_steps) in
    let rest = snoc_same xs ys a b tails in
    (ap (λ z. z ∷ xs) heads ∙ ap (λ zs. y ∷ zs) rest.0, rest.1)

-- each new tally is one worker's
pub one_part : (n : ℕ) → All (λ (c : Counts). c.parts ≡ 1) (new_tallies n)
one_part zero = λ k d h. absurd (omega arith)
one_part (suc n) =
    let last = All-cons (λ (c : Counts). c.parts ≡ 1) (new_tally n) [] refl
    (λ k d h. absurd (omega arith)) in
    All-append (λ (c : Counts). c.parts ≡ 1) (new_tallies n) (new_tally n ∷ []) (one_part n) last

pub length-new_tallies : (n : ℕ) → length (new_tallies n) ≡ n
length-new_tallies zero = refl
length-new_tallies (suc n) =
    let so_far = length-new_tallies n in
    omega (arith, so_far, length-append (new_tallies n) (new_tally n ∷ []))

module _ {A : Type 0} (tally : A → Counts) (n : ℕ) where
  -- of n + 1 tallies the last is numbered n
  pub last_tally : (xs : List A) (x : A) → map tally (xs ++ x ∷ []) ≡ new_tallies (n + 1)
      → (map tally xs ≡ new_tallies n) × (tally x ≡ new_tally n)
  last_tally xs x e =
      snoc_same _ _ _ _ (sym (map-append tally xs (x ∷ [])) ∙ e ∙ ap new_tallies (add-one n))

  -- and there is one
  pub some_tally : (xs : List A) → length xs ≡ 0 → map tally xs ≡ new_tallies (n + 1) → ⊥
  some_tally xs none e =
      let longer : length (new_tallies n ++ new_tally n ∷ []) ≡ length xs =
      ap length (sym (e ∙ ap new_tallies (add-one n))) ∙ length-map xs tally in
      absurd (omega (arith, longer, none, length-append (new_tallies n) (new_tally n ∷ [])))

-- what is counted in a history is counted in one that is the same, by a tally that is the same
pub counted_so : (w v : Counts) (b a : BaseState) (l k : List Step) → w ≡ v → a ≡ b → k ≡ l
    → IsTallied w b l → IsTallied v a k
counted_so w v b a l k whole base steps it =
    subst (λ x. IsTallied x a k) whole (subst (λ x. IsTallied w x k) (sym base)
    (subst (λ x. IsTallied w b x) (sym steps) it))

-- of one new tally more than n the last is numbered n, and there is one
pub last_new : (n : ℕ) (xs : List Counts) (x : Counts) → xs ++ x ∷ [] ≡ new_tallies (n + 1)
    → (xs ≡ new_tallies n) × (x ≡ new_tally n)
last_new n xs x e = snoc_same _ _ _ _ (e ∙ ap new_tallies (add-one n))

pub some_new : (n : ℕ) (xs : List Counts) → length xs ≡ 0 → xs ≡ new_tallies (n + 1) → ⊥
some_new n xs none e =
    let long = ap length e ∙ length-new_tallies (n + 1) in absurd (omega (arith, none, long))

module _ {Job Answered Answer : Type 0} (serves : Counts → Answer → Counts → Type 0)
    (given : Job → Counts) (answer : Answered → Answer) (counted : Answered → Counts) where
  -- what holds of each job and of what became of it, by their places, holds along the lists
  pub all_served : (js : List Job) (rs : List Answered) → length rs ≡ length js
      → ((i : ℕ) (d : Answered) → i < length js
      → (j : Job) × ((e : Job) → slice_index_or js i e ≡ j)
      × serves (given j) (answer (slice_index_or rs i d)) (counted (slice_index_or rs i d)))
      → HaveServed serves (map given js) (map answer rs) (map counted rs)
  all_served [] [] e each = tt
  all_served [] (r ∷ rs) e each = absurd (omega arith)
  all_served (j ∷ js) [] e each = absurd (omega arith)
  all_served (j ∷ js) (r ∷ rs) e each =
      let first = each 0 r (omega arith) in
      let is : j ≡ first.0 = first.1 j in (
        subst (λ (x : Job). serves (given x) (answer r) (counted r)) (sym is) first.2,
        all_served js rs (omega (arith, e)) (λ i d h. each (suc i) d (omega (arith, h))),
      )

-- one is done more, and one is left fewer
pub moved : {A B : Type 0} (f : A → B) (done : List A) (x : A) (y : B) (all now next : List B)
    → f x ≡ y → now ≡ y ∷ next → map f done ++ now ≡ all → map f (done ++ x ∷ []) ++ next ≡ all
moved f done x y all now next same first so_far =
    let whole : map f (done ++ x ∷ []) ≡ map f done ++ f x ∷ [] = map-append f done (x ∷ []) in
    ap (λ l. l ++ next) whole ∙ append_assoc (map f done) (f x ∷ []) next
    ∙ ap (λ z. map f done ++ z ∷ next) same ∙ ap (λ l. map f done ++ l) (sym first) ∙ so_far

module _ {Shared Answer End : Type 0} (begins : Counts → Shared → Counts → Type 0)
    (serves : Shared → Counts → Answer → Counts → Type 0)
    (ends : Shared → Counts → End → Counts → Type 0) where
  -- a run, of what each of its parts has done
  pub put_together : (workers : ℕ) (end : End) (answers given : List Answer) (base : BaseState)
      (steps : List Step) (shared : Shared) (first begun ended whole : Counts)
      (before tallies : List Counts) → first ≡ new_tally workers → begins first shared begun
      → before ≡ new_tallies workers → HaveServed (serves shared) before given tallies
      → answers ≡ given → ends shared begun end ended → whole ≡ all_merged ended tallies
      → IsTallied whole base steps → IsRun begins serves ends workers end answers base steps
  put_together workers end answers given base steps shared first begun ended whole before tallies
      is began all served same last merged counted =
      record {
        shared = shared;
        begun = begun;
        start = subst (λ c. begins c shared begun) is began;
        tallies = tallies;
        served = subst (λ others. HaveServed (serves shared) (new_tallies workers) others tallies)
            (sym same) (subst (λ cs. HaveServed (serves shared) cs given tallies) all served);
        ended = ended;
        last = last;
        counted = subst (λ c. IsTallied c base steps) merged counted;
      }

module _ {Answered Answer : Type 0} (serves : Counts → Answer → Counts → Type 0)
    (answer : Answered → Answer) (counted : Answered → Counts) where
  -- one more has served after these
  pub one_more : (before : List Counts) (rs : List Answered) (old : Counts) (r : Answered)
      → HaveServed serves before (map answer rs) (map counted rs)
      → serves old (answer r) (counted r)
      → HaveServed serves (before ++ old ∷ []) (map answer (rs ++ r ∷ [])) (map counted (rs ++ r ∷ []))
  one_more [] [] old r so_far it = (it, tt)
  one_more [] (s ∷ rs) old r so_far it = elim so_far [ ]
  one_more (b ∷ bs) [] old r so_far it = elim so_far [ ]
  one_more (b ∷ bs) (s ∷ rs) old r so_far it = (so_far.0, one_more bs rs old r so_far.1 it)

  -- the same of a list with one more that has served
  pub served_more : (before : List Counts) (rs all : List Answered) (old : Counts) (r : Answered)
      → all ≡ rs ++ r ∷ [] → HaveServed serves before (map answer rs) (map counted rs)
      → serves old (answer r) (counted r)
      → HaveServed serves (before ++ old ∷ []) (map answer all) (map counted all)
  served_more before rs all old r same so_far it =
      subst (λ l. HaveServed serves (before ++ old ∷ []) (map answer l) (map counted l)) (sym same)
      (one_more before rs old r so_far it)

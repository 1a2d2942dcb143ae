-- What workers count together, if each counts what it returns.
use Rattle.std.proofs.Common.{◌≡◌, ℕ, zero, suc, ◌+◌, ◌∙◌, sym, refl, ap, arith}
use Rattle.std.proofs.Common.{List, [], ◌∷◌, ◌++◌, length, sum, sum_by, length-append}
use Rattle.std.proofs.lemmas.Grind.{common_steps}
use Rattle.shared_history.specs.Counts.{Counts, merged, new_tally, new_tallies}
use Rattle.generational_core.specs.Machine.{Action}
use Rattle.generational_core.specs.Machine.Answer.{Refused}
use Rattle.shared_state.specs.Shared.{IsUnseenStep}
use Rattle.generational_errors.specs.declared.error.StoreError.{StoreError}
use Rattle.generational_errors.specs.declared.error.StoreError.TheVariants.{OutOfMemory}
use Rattle.generational_errors.specs.declared.error.StoreError.TheVariants.{NumbersExhausted}
use Rattle.generational_errors.specs.declared.error.StoreError.TheVariants.{UnknownOwner}
use Rattle.generational_workers.specs.Runs.{HaveServed, all_merged}

-- a failed step isn't counted as one that makes something
pub kept_made : {T : Type 0} (number : ℕ) (c : Counts) (action : Action T) (cause : StoreError)
    (d : Counts) → IsUnseenStep number c action (Refused cause) d → d.made ≡ c.made
kept_made number c action OutOfMemory d it = ap (λ x. x.made) it.step.tally
kept_made number c action NumbersExhausted d it = ap (λ x. x.made) it.step.tally
kept_made number c action UnknownOwner d it = ap (λ x. x.made) it.step.tally

abbrev made : Counts → ℕ
made c = c.made

made_together : (c : Counts) (ds : List Counts) → (all_merged c ds).made ≡ c.made + sum_by made ds
made_together c [] = omega arith
made_together c (d ∷ ds) =
    let more = made_together (merged c d) ds in grind (arith, common_steps, more)

none_made : (n : ℕ) → sum_by made (new_tallies n) ≡ 0
none_made zero = refl
none_made (suc n) = let so_far = none_made n in grind (arith, common_steps, so_far)

module _ (serves : Counts → ℕ → Counts → Type 0)
    (adds : (old : Counts) (x : ℕ) (new : Counts) → serves old x new → new.made ≡ old.made + x) where
  made_so : (before : List Counts) (answers : List ℕ) (after : List Counts)
      → HaveServed serves before answers after → sum_by made after ≡ sum_by made before + sum answers
  made_so [] [] [] h = refl
  made_so [] [] (c ∷ cs) h = elim h [ ]
  made_so [] (a ∷ answers) after h = elim h [ ]
  made_so (b ∷ bs) [] after h = elim h [ ]
  made_so (b ∷ bs) (a ∷ answers) [] h = elim h [ ]
  made_so (b ∷ bs) (a ∷ answers) (c ∷ cs) h =
      let first = adds b a c h.0 in
      let rest = made_so bs answers cs h.1 in grind (arith, common_steps, first, rest)

many_answers : (serves : Counts → ℕ → Counts → Type 0) (before : List Counts) (answers : List ℕ)
    (after : List Counts) → HaveServed serves before answers after → length answers ≡ length before
many_answers serves [] [] [] h = refl
many_answers serves [] [] (c ∷ cs) h = elim h [ ]
many_answers serves [] (a ∷ answers) after h = elim h [ ]
many_answers serves (b ∷ bs) [] after h = elim h [ ]
many_answers serves (b ∷ bs) (a ∷ answers) [] h = elim h [ ]
many_answers serves (b ∷ bs) (a ∷ answers) (c ∷ cs) h = ap suc (many_answers serves bs answers cs h.1)

long : (n : ℕ) → length (new_tallies n) ≡ n
long zero = refl
long (suc n) =
    let so_far = long n in omega (arith, so_far, length-append (new_tallies n) (new_tally n ∷ []))

-- each worker has returned
pub all_answer : (serves : Counts → ℕ → Counts → Type 0) (n : ℕ) (answers : List ℕ)
    (tallies : List Counts) → HaveServed serves (new_tallies n) answers tallies
    → length answers ≡ n
all_answer serves n answers tallies served =
    many_answers serves (new_tallies n) answers tallies served ∙ long n

-- the sum of all results
pub all_made : (serves : Counts → ℕ → Counts → Type 0)
    → ((old : Counts) (x : ℕ) (new : Counts) → serves old x new → new.made ≡ old.made + x)
    → (n : ℕ) (answers : List ℕ) (ended : Counts) (tallies : List Counts) → ended.made ≡ 0
    → HaveServed serves (new_tallies n) answers tallies
    → (all_merged ended tallies).made ≡ sum answers
all_made serves adds n answers ended tallies none served =
    let together = made_together ended tallies in
    let each = made_so serves adds (new_tallies n) answers tallies served in
    let start = none_made n in omega (arith, together, each, start, none)

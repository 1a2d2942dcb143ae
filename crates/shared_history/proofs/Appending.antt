-- Another step, by the letters of its locations, is another of its kind; and of which kinds steps are.
use Rattle.std.proofs.Common.{◌≡◌, ℕ, ◌+◌, ◌≤◌, List, [], ◌∷◌, refl, cond, length}
use Rattle.std.proofs.Common.{arith}
use Rattle.std.proofs.lemmas.List.Sums.{count_by-le-length, sum_by-append, sum_by-cons}
use Rattle.shared_records.specs.Kinds.{count_of_kind, step_kind, same_kind}
use Rattle.shared_records.specs.Letters.{AppendsStep, lettered, relocate_reply}
use Rattle.shared_records.specs.declared.step.Kind.{Kind}
use Rattle.shared_records.specs.declared.step.Kind.TheVariants.{Made, Lent, Changed, Refused}
use Rattle.shared_records.specs.declared.step.Step.{Step}
use Rattle.shared_records.specs.declared.step.StepReply.{StepReply}

kind_stays : (r : StepReply) → step_kind (relocate_reply lettered r) ≡ step_kind r
kind_stays r = grind arith

abbrev bit : Kind → Kind → ℕ
bit k l = cond (same_kind k l) 1 0

-- a step counts by the kind of its reply
count-cons : (k : Kind) (x : Step) (xs : List Step)
    → count_of_kind k (x ∷ xs) ≡ bit k (step_kind x.reply) + count_of_kind k xs
count-cons k x xs = sum_by-cons (λ (s : Step). bit k (step_kind s.reply)) x xs

pub one_more : (kind : Kind) (before after : List Step) (step : Step) → AppendsStep before step after
    → count_of_kind kind after ≡ count_of_kind kind before + count_of_kind kind (step ∷ [])
one_more kind before after step more =
    let both = sum_by-append (λ (x : Step). bit kind (step_kind x.reply)) before (more.last ∷ []) in
    grind (arith, both, count-cons, kind_stays more.last.reply, kind_stays step.reply)

-- no more are of a kind than there are
pub few : (kind : Kind) (steps : List Step) → count_of_kind kind steps ≤ length steps
few kind steps = count_by-le-length (λ (s : Step). same_kind kind (step_kind s.reply)) steps

-- a kind is one of the four, so the steps of the four kinds are all
one_kind : (k : Kind) → bit Made k + bit Lent k + bit Changed k + bit Refused k ≡ 1
one_kind k = grind arith

pub all_kinds : (steps : List Step)
    → count_of_kind Made steps + count_of_kind Lent steps + count_of_kind Changed steps + count_of_kind Refused steps
    ≡ length steps
all_kinds [] = refl
all_kinds (x ∷ xs) =
    let made = count-cons Made x xs in
    let lent = count-cons Lent x xs in
    let changed = count-cons Changed x xs in
    let refused = count-cons Refused x xs in omega (arith, all_kinds xs, one_kind (step_kind x.reply))

-- what holds of each of the four holds of a kind
pub each_kind : (P : Kind → Type 0) → P Made → P Lent → P Changed → P Refused → (k : Kind) → P k
each_kind P made lent changed refused k = elim k as (λ k. P k) [
  | Made ↦ made
  | Lent ↦ lent
  | Changed ↦ changed
  | Refused ↦ refused
]

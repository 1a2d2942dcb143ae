-- A step leaves a tally as many parts as it had.
use Rattle.std.proofs.Common.{◌≡◌, ℕ, ◌∙◌, refl, ap, subst, Option, Some, None}
use Rattle.generational_core.specs.Machine.{Action, Answer}
use Rattle.shared_state.specs.Shared.{IsUnseenStep}
use Rattle.shared_history.specs.Counts.{Counts}
use Rattle.shared_history.specs.Replies.{answer_kind, raised_by}
use Rattle.shared_records.specs.declared.step.Kind.{Kind}
use Rattle.shared_records.specs.declared.step.Kind.TheVariants.{Made, Lent, Changed, Refused}

raised_parts : (kind : Option Kind) (c : Counts) → (raised_by kind c).parts ≡ c.parts
raised_parts None c = refl
raised_parts (Some Made) c = refl
raised_parts (Some Lent) c = refl
raised_parts (Some Changed) c = refl
raised_parts (Some Refused) c = refl

pub unseen_parts : {T : Type 0} (number : ℕ) (c : Counts) (action : Action T) (answer : Answer T)
    (d : Counts) → IsUnseenStep number c action answer d → d.parts ≡ c.parts
unseen_parts number c action answer d it =
    ap (λ x. x.parts) it.step.tally ∙ raised_parts (answer_kind answer) c

-- a step with a tally that was left as it was
pub after_pause : {T : Type 0} (number : ℕ) (c d : Counts) (action : Action T) (answer : Answer T)
    (e : Counts) → d ≡ c → IsUnseenStep number d action answer e → IsUnseenStep number c action answer e
after_pause number c d action answer e same it =
    subst (λ x. IsUnseenStep number x action answer e) same it

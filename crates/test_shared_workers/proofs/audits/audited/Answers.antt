use Rattle.std.proofs.Common.{◌≡◌, ℕ, ◌∙◌, sym, refl, true, Option, None, Some}
use Rattle.std.proofs.Common.{Result, Ok, Err, IfOk}
use Rattle.std.specs.Prelude.{is_some}
use Rattle.std.proofs.lemmas.Bool.{true≢false}
use Rattle.generational_core.specs.State.{IsSound}
use Rattle.shared_history.specs.Bases.{plain_of}
use Rattle.shared_history.specs.History.{Plain, replay_from}
use Rattle.test_shared_workers.proofs.audits.audited.Goals as goal

-- what holds of each state to which a history leads holds of the one to which it does
reached : (o : Option Plain) (number : ℕ) → is_some o ≡ true
    → ((Q : Plain) → o ≡ Some Q → IsSound Q × (Q.number ≡ number))
    → (Q : Plain) × (o ≡ Some Q) × IsSound Q × (Q.number ≡ number)
reached None number e leads = absurd (true≢false (sym e))
reached (Some Q) number e leads = (Q, refl, (leads Q refl).0, (leads Q refl).1)

when_ok : {A E : Type 0} (P Q : A → Type 0) (r : Result A E) → ((x : A) → P x → Q x)
    → IfOk r P → IfOk r Q
when_ok P Q (Ok x) f p = f x p
when_ok P Q (Err e) f p = tt

pub returns : goal.returns
returns g c =
    let law = c.histories_lead_to_sound_states.ensures in
    when_ok _ _ c.audit.result (λ r history. reached (replay_from (plain_of r.0) r.1.items)
    g.row.NUMBER history.2 (λ Q e. (
      law.sound _ _ Q history.1 e,
      law.store r.0 r.1.items Q history.1 e ∙ history.0,
    ))) c.audit.ensures.replays

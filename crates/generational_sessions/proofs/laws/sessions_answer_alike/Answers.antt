use Rattle.generational_sessions.proofs.{◌∙◌, sym, ap, list_map, answers, empty_session, erase}
use Rattle.generational_sessions.proofs.{fresh_sound, fresh_matches, run_answers}
use Rattle.generational_sessions.proofs.laws.sessions_answer_alike.Goals as goal

pub returns : goal.returns
returns g c
    number start next start_again next_again calls replies again r r_again run run_again alike =
    let own = run_answers
    calls replies _ r _ (fresh_matches number start next) (fresh_sound number start next) run in
    let other = run_answers calls again _ r_again _ (fresh_matches number start_again next_again)
    (fresh_sound number start_again next_again) run_again in
    own.same ∙ (ap (λ refused. list_map erase (answers (empty_session number) calls refused)) alike
    ∙ sym other.same)

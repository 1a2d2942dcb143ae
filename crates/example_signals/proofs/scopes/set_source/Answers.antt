use Rattle.example_signals.proofs.{ap, as_refused_mut, err_so, inl, inr, IsUnchanged, left_ticket}
use Rattle.example_signals.proofs.{left_twice, read_short, refl, set_free, subst, sym, ◌∙◌}
use Rattle.example_signals.proofs.scopes.set_source.Goals as goal

pub returns-in-Err-clause-refused : goal.returns-in-Err-clause-refused
returns-in-Err-clause-refused g c =
    inr (inl (_, c.in_ok-swap_source.ensures.step, c.in-Err.ensures.refused.1))

pub returns-in_err-seen-clause-refused : goal.returns-in_err-seen-clause-refused
returns-in_err-seen-clause-refused g c =
    let read = c.in_err-seen.ensures.refused in
    let free = set_free c.in-Ok.ensures.set _ refl in
    let short = read_short _ _ (g.met.S.AnyStorage.sound _) free _ read.1 in
    err_so _ (λ e is. inr (inr (is ∙ ap as_refused_mut short.0, ap (λ X. X.next) read.0 ∙ short.1)))
    c.from_residual-in_err-seen.ensures.1

pub returns-clause-others : goal.returns-clause-others
returns-clause-others g c b apart ne =
    let turn = c.in_ok-swap_source.ensures in
    let left = turn.others b apart in
    let set = c.in-Ok.ensures.others b (λ is. ne (sym left.reached ∙ (is ∙ turn.reached))) in
    let read = subst (IsUnchanged _ b) (sym c.in_ok-seen.ensures.ticket) (left_ticket _ b) in
    left_twice (left_twice left set) read

pub returns-in-Err-clause-others : goal.returns-in-Err-clause-others
returns-in-Err-clause-others g c b apart ne =
    subst (IsUnchanged _ b) (sym c.in-Err.ensures.refused.0) (c.in_ok-swap_source.ensures.others b apart)

pub returns-in_err-seen-clause-others : goal.returns-in_err-seen-clause-others
returns-in_err-seen-clause-others g c b apart ne =
    let turn = c.in_ok-swap_source.ensures in
    let left = turn.others b apart in
    let set = c.in-Ok.ensures.others b (λ is. ne (sym left.reached ∙ (is ∙ turn.reached))) in
    subst (IsUnchanged _ b) (sym c.in_err-seen.ensures.refused.0) (left_twice left set)

use Rattle.example_signals.proofs.{ap, as_refused_mut, err_so, inr, IsUnchanged, keeps_free, left_ticket}
use Rattle.example_signals.proofs.{left_twice, read_short, subst, sym, ◌∙◌}
use Rattle.example_signals.proofs.scopes.count_up.Goals as goal

pub returns-in_err-seen-clause-refused : goal.returns-in_err-seen-clause-refused
returns-in_err-seen-clause-refused g c =
    let update = c.in_ok-update.ensures in
    let free = keeps_free _ _ (g.met.S.AnyStorage.sound _) update.changed.4 _ tt (sym update.free) in
    let read = c.in_err-seen.ensures.refused in
    let short = read_short _ _ (g.met.S.AnyStorage.sound _) free _ read.1 in
    err_so _ (λ e is. inr (is ∙ ap as_refused_mut short.0, ap (λ X. X.next) read.0 ∙ short.1))
    c.from_residual-in_err-seen.ensures.1

pub returns-clause-others : goal.returns-clause-others
returns-clause-others g c b apart =
    let read = subst (IsUnchanged _ b) (sym c.in_ok-seen.ensures.ticket) (left_ticket _ b) in
    left_twice (c.in_ok-update.ensures.others b apart) read

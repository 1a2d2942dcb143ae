use Rattle.std.proofs.Common.{◌≡◌, ◌∙◌, ◌+◌, sym, subst, All, map, ap, rules}
use Rattle.shared_history.specs.Counts.{Counts}
use Rattle.generational_workers.proofs.Tallies.{last_tally, one_part, some_tally}
use Rattle.generational_workers.proofs.run.open_desks.Goals as goal

pub desks-requires : goal.desks-requires
desks-requires g c =
    let each = one_part (c.args.workers + 1) in
    let same = sym c.in_ok-store.ensures.tallies in
    (search rules, (search rules, subst (All (λ (d : Counts). d.parts ≡ 1)) same each))

pub unreachable-requires : goal.unreachable-requires
unreachable-requires g c =
    let none = sym c.in_ok-desks.desks.ok.0 ∙ c.in_default.ensures.cases.0 in
    let all = c.in_ok-desks.ensures ∙ c.in_ok-store.ensures.tallies in
    some_tally (λ d. d.own.tally) c.args.workers c.in_ok-desks.desks.items none all

pub returns : goal.returns
returns g c =
    let split = ap (map (λ d. d.own.tally)) (sym c.in-Some.ensures.items) in
    let all = split ∙ c.in_ok-desks.ensures ∙ c.in_ok-store.ensures.tallies in
    let last = last_tally (λ d. d.own.tally) c.args.workers _ _ all in
    record { chief = last.1; desks = last.0 }

use Rattle.store_parts.proofs.{get_or_read, HasTicketAt, length, list_any, nat_eq, rules, search_finds}
use Rattle.store_parts.proofs.{search_misses, standing_in, stands_there, sym, ◌<◌, ◌∙◌, ◌≡◌}
use Rattle.store_parts.proofs.queue.find.Goals as goal
use Rattle.store_parts.proofs.queue.find.Goals.{After-index}

found : (c : After-index) → (c.in-Ok.index < length c.args.seats.now.items)
    × HasTicketAt c.args.ticket c.args.seats.now.items c.in-Ok.index
found c = search_finds c.args.ticket _ c.requires (λ f p r f' called. search rules)
    c.in-Ok.index _ c.in-Ok.ensures.bound c.args.seats.now.ok.0 c.in-Ok.ensures.position

known : (c : After-index) → list_any (λ b. nat_eq b.ticket c.args.ticket)
    (standing_in c.args.seats.now.items)
    ≡ c.index.result.now.stands
known c =
    let at = found c in
    stands_there c.args.ticket _ c.in-Ok.index c.index.result.now c.requires at.0 at.1
    ∙ rw (← get_or_read _ _ _ at.0 c.index.ensures c.index.result.now)

pub returns-in-Ok-clause-known : goal.returns-in-Ok-clause-known
returns-in-Ok-clause-known c = sym (known (goal.at.returns-in-Ok-clause-known c).After-index
    ∙ c.if-index.true)

pub returns-in-Ok-clause-there : goal.returns-in-Ok-clause-there
returns-in-Ok-clause-there c =
    let at = found (goal.at.returns-in-Ok-clause-there c).After-index in (
      at.0,
      at.1,
      λ d within. rw (← get_or_read _ _ _ at.0 c.index.ensures d) c.if-index.true,
    )

pub returns-in_default-clause-known : goal.returns-in_default-clause-known
returns-in_default-clause-known c =
    sym (known (goal.at.returns-in_default-clause-known c).After-index ∙ c.if-index.false)

pub returns-in_default-2-clause-known : goal.returns-in_default-2-clause-known
returns-in_default-2-clause-known c =
    sym (search_misses c.args.ticket _ c.requires (λ f p r f' called. search rules)
    _ c.in_default.ensures.position)

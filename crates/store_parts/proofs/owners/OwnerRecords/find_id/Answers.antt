use Rattle.store_parts.proofs.{ap, KeyedOwnership, option_map, owner_of, record_found}
use Rattle.store_parts.proofs.{record_missing, sym, ◌∙◌}
use Rattle.store_parts.proofs.owners.OwnerRecords.find_id.Goals as goal

pub returns-in-Some : goal.returns-in-Some
returns-in-Some c = rw (← c.self.view_is)
    (ap (option_map (λ (r : KeyedOwnership). r.ownership)) c.as_ref.ensures.value
    ∙ record_found c.args.number (owner_of c.args.id) c.if-id-number.false _
    c.self.invariant c.in-Some.position c.in-Some.ensures.found c.index.result.now c.index.ensures)

pub returns-in-None : goal.returns-in-None
returns-in-None c = rw (← c.self.view_is) (sym (record_missing c.args.number (owner_of c.args.id)
    c.if-id-number.false _ c.in-None.ensures.none))

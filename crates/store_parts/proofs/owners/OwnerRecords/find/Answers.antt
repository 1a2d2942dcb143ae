use Rattle.store_parts.proofs.{ap, arith, key_there, KeyedOwnership, option_map, read_there}
use Rattle.store_parts.proofs.{record_found, record_missing, record_within, Some, sym, value_there, ◌∙◌}
use Rattle.store_parts.proofs.owners.OwnerRecords.find.Goals as goal

pub returns-in-None-clause-record : goal.returns-in-None-clause-record
returns-in-None-clause-record c =
    rw (← c.self.view_is) (sym (record_missing c.args.number c.args.owner.now
    (sym c.number_of.ensures ∙ c.if-number_of-number.false) _ c.in-None.ensures.none))

pub index-requires : goal.index-requires
index-requires c =
    let within = record_within c.self.invariant _ _ c.in-Some.ensures.found in
    omega (arith, within, c.self.inside.records.ok.0)

pub unreachable-requires : goal.unreachable-requires
unreachable-requires c =
    let there = read_there c.self.invariant _ _ c.in-Some.ensures.found _ c.index.ensures in
    cc (c.in-None-index.is, there)

pub returns-clause-record : goal.returns-clause-record
returns-clause-record c = rw (← c.self.view_is)
    (ap (option_map (λ (r : KeyedOwnership). r.ownership)) (sym c.in-Some-index.is)
    ∙ record_found c.args.number c.args.owner.now
    (sym c.number_of.ensures ∙ c.if-number_of-number.false)
    _ c.self.invariant c.in-Some.position c.in-Some.ensures.found c.index.result.now c.index.ensures)

pub returns-clause-position : goal.returns-clause-position
returns-clause-position c = rw (← c.self.view_is)
    (value_there c.self.invariant _ _ c.in-Some.ensures.found _ c.index.ensures
    ∙ ap Some c.in-Some-index.is)

pub returns-clause-key : goal.returns-clause-key
returns-clause-key c =
    key_there c.self.invariant _ _ c.in-Some.ensures.found _ c.index.ensures c.in-Some-index.record
    c.in-Some-index.is

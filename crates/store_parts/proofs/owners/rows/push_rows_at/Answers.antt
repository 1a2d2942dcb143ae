use Rattle.store_parts.proofs.{append-nil, ap, arith, refl, slice_get_past, slice_get_read, Some, ◌∙◌}
use Rattle.store_parts.proofs.owners.rows.push_rows_at.Goals as goal

pub returns-in_default : goal.returns-in_default
returns-in_default c = rw (
  slice_get_past c.args.records.now c.args.position (omega (arith, c.in_default.ensures.lookup.3)),
  append-nil c.args.rows.now.items,
) refl

pub returns-in-Some-found : goal.returns-in-Some-found
returns-in-Some-found c =
    let found = c.in-Some.ensures.lookup in
    rw (slice_get_read c.args.records.now _ c.args.position c.in-Some.found.now refl found.3.0 found.1
    ∙ ap Some c.in-Some-found.is) c.push_rows.ensures

pub returns-in-None : goal.returns-in-None
returns-in-None c =
    let found = c.in-Some.ensures.lookup in
    rw (
      slice_get_read c.args.records.now _ c.args.position c.in-Some.found.now refl found.3.0 found.1 ∙ ap Some c.in-None.is,
      append-nil c.args.rows.now.items,
    ) refl

use Rattle.document_tree.proofs.{arith, length, listed_within, plan_fault, plan_short, slice_get, Some, spots_fit, subst, sym, ◌≡◌}
use Rattle.document_tree.specs.Building.{AreSpotsCounted, AreUsed}
use Rattle.document_tree.proofs.building.planned.Goals as goal

pub counts_of-requires-clause-within : goal.counts_of-requires-clause-within
counts_of-requires-clause-within g c k m is =
    listed_within c.args.rows.now c.in_ok-spots.spots.items c.in_ok-spots.ensures.listed k m
    (subst (λ xs. slice_get xs k ≡ Some m) c.as_slice.ensures.value is)

pub returns-in_err-noted-clause-fault : goal.returns-in_err-noted-clause-fault
returns-in_err-noted-clause-fault g c =
    let spots = c.in_ok-spots.spots.items in
    let are = subst (λ xs. AreSpotsCounted xs (length xs) c.in-Some.counts.items) c.as_slice.ensures.value c.in-Some.ensures.counted in
    let told = plan_fault spots c.in_ok-spots.ensures.spots c.args.rows.now c.in_ok-spots.ensures.listed c.as_slice-2.result.now
    (subst (λ xs. AreSpotsCounted spots (length spots) xs) (sym c.as_slice-2.ensures.value) are) c.in_err-noted.field-0.0
    c.in_err-noted.ensures.fault in
    grind (arith, told)

pub returns-in_err-noted-clause-short : goal.returns-in_err-noted-clause-short
returns-in_err-noted-clause-short g c simple fits =
    let spots = c.in_ok-spots.spots.items in
    let are = subst (λ xs. AreSpotsCounted xs (length xs) c.in-Some.counts.items) c.as_slice.ensures.value c.in-Some.ensures.counted in
    let told = plan_short spots c.in_ok-spots.ensures.spots c.args.rows.now c.in_ok-spots.ensures.listed c.as_slice-2.result.now
    (subst (λ xs. AreSpotsCounted spots (length spots) xs) (sym c.as_slice-2.ensures.value) are) c.in_err-noted.field-0.0
    c.in_err-noted.ensures.fault fits in
    grind (arith, told)

pub returns-clause-used : goal.returns-clause-used
returns-clause-used g c = subst (λ xs. AreUsed c.args.rows.now xs (length c.args.rows.now)) c.as_slice-2.ensures.value
    c.in_ok-noted.ensures.used

pub returns-clause-fits : goal.returns-clause-fits
returns-clause-fits g c =
    let spots = c.in_ok-spots.spots.items in
    let are = subst (λ xs. AreSpotsCounted xs (length xs) c.in-Some.counts.items) c.as_slice.ensures.value c.in-Some.ensures.counted in
    spots_fit spots c.in_ok-spots.ensures.spots c.args.rows.now c.in_ok-spots.ensures.listed c.in-Some.counts.items are
    (subst (λ xs. AreUsed c.args.rows.now xs (length c.args.rows.now)) c.as_slice-2.ensures.value c.in_ok-noted.ensures.used)

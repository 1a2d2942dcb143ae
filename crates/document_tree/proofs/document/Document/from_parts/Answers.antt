use Rattle.document_tree.proofs.{all_made, ap, arith, length, listed_within, slice_get, Some, still_all, subst, told_in, told_whole, ◌≡◌}
use Rattle.document_tree.proofs.document.Document.from_parts.Goals as goal

pub lead_all-requires-clause-within : goal.lead_all-requires-clause-within
lead_all-requires-clause-within g c k m is =
    let lt = listed_within c.as_slice.result.now c.in-Ok.plan.spots.items c.in-Ok.ensures.listed k m
    (subst (λ xs. slice_get xs k ≡ Some m) c.as_slice-4.ensures.value is) in
    omega (arith, lt, ap length c.as_slice-5.ensures.value, c.fill.ensures.keys, ap length c.as_slice.ensures.value)

pub invariant_of-result : goal.invariant_of-result
invariant_of-result g c =
    let made = all_made (g.met.S.AnyStorage.sound _) c.in-Ok.ensures.simple c.in-Ok.ensures.small
    (record {
      rows_same = c.as_slice.ensures.value;
      spots_same = c.as_slice-4.ensures.value;
      counts_same = c.as_slice-2.ensures.value;
      keys_same = c.as_slice-5.ensures.value;
    })
    _ _ c.as_slice-3.ensures.value c.fill.new.parts.slots c.in-Ok.ensures.spots c.in-Ok.ensures.listed
    c.in-Ok.ensures.counted c.in-Ok.ensures.used c.planned.new.sites.all (told_in c.tell_all.new.self)
    (told_whole c.tell_all.new.self c.planned.new.sites.all c.tell_all.ensures.all c.tell_all.ensures.told)
    c.in-Ok.ensures.sited c.fill.ensures.put _ c.lead_all.ensures.simple c.lead_all.ensures.led c.lead_all.ensures.none in
    made.kept

pub returns-clause-shown : goal.returns-clause-shown
returns-clause-shown g c =
    let made = all_made (g.met.S.AnyStorage.sound _) c.in-Ok.ensures.simple c.in-Ok.ensures.small
    (record {
      rows_same = c.as_slice.ensures.value;
      spots_same = c.as_slice-4.ensures.value;
      counts_same = c.as_slice-2.ensures.value;
      keys_same = c.as_slice-5.ensures.value;
    })
    _ _ c.as_slice-3.ensures.value c.fill.new.parts.slots c.in-Ok.ensures.spots c.in-Ok.ensures.listed
    c.in-Ok.ensures.counted c.in-Ok.ensures.used c.planned.new.sites.all (told_in c.tell_all.new.self)
    (told_whole c.tell_all.new.self c.planned.new.sites.all c.tell_all.ensures.all c.tell_all.ensures.told)
    c.in-Ok.ensures.sited c.fill.ensures.put _ c.lead_all.ensures.simple c.lead_all.ensures.led c.lead_all.ensures.none in
    made.shown

pub returns-clause-same : goal.returns-clause-same
returns-clause-same g c =
    let made = all_made (g.met.S.AnyStorage.sound _) c.in-Ok.ensures.simple c.in-Ok.ensures.small
    (record {
      rows_same = c.as_slice.ensures.value;
      spots_same = c.as_slice-4.ensures.value;
      counts_same = c.as_slice-2.ensures.value;
      keys_same = c.as_slice-5.ensures.value;
    })
    _ _ c.as_slice-3.ensures.value c.fill.new.parts.slots c.in-Ok.ensures.spots c.in-Ok.ensures.listed
    c.in-Ok.ensures.counted c.in-Ok.ensures.used c.planned.new.sites.all (told_in c.tell_all.new.self)
    (told_whole c.tell_all.new.self c.planned.new.sites.all c.tell_all.ensures.all c.tell_all.ensures.told)
    c.in-Ok.ensures.sited c.fill.ensures.put _ c.lead_all.ensures.simple c.lead_all.ensures.led c.lead_all.ensures.none in
    made.same

pub returns-clause-here : goal.returns-clause-here
returns-clause-here g c =
    let made = all_made (g.met.S.AnyStorage.sound _) c.in-Ok.ensures.simple c.in-Ok.ensures.small
    (record {
      rows_same = c.as_slice.ensures.value;
      spots_same = c.as_slice-4.ensures.value;
      counts_same = c.as_slice-2.ensures.value;
      keys_same = c.as_slice-5.ensures.value;
    })
    _ _ c.as_slice-3.ensures.value c.fill.new.parts.slots c.in-Ok.ensures.spots c.in-Ok.ensures.listed
    c.in-Ok.ensures.counted c.in-Ok.ensures.used c.planned.new.sites.all (told_in c.tell_all.new.self)
    (told_whole c.tell_all.new.self c.planned.new.sites.all c.tell_all.ensures.all c.tell_all.ensures.told)
    c.in-Ok.ensures.sited c.fill.ensures.put _ c.lead_all.ensures.simple c.lead_all.ensures.led c.lead_all.ensures.none in
    made.added

pub returns-clause-made : goal.returns-clause-made
returns-clause-made g c p is = c.lead_all.ensures.given _ is

pub returns-clause-tells : goal.returns-clause-tells
returns-clause-tells g c p l is =
    let whole = told_whole c.tell_all.new.self c.planned.new.sites.all c.tell_all.ensures.all c.tell_all.ensures.told in
    still_all _ _ c.planned.new.sites (told_in c.tell_all.new.self) _ p l c.lead_all.ensures.number c.in-Ok.ensures.told whole is

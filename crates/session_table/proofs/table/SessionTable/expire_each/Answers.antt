use Rattle.std.proofs.Common.{of_calls}
use Rattle.session_table.proofs.{all_called, all_expired, ap, arith, called_old, called_on, none_called, none_shed}
use Rattle.session_table.proofs.{option_map, same_Some, sheds_old, sheds_on, sym, ◌∙◌}
use Rattle.session_table.proofs.table.SessionTable.expire_each.Goals as goal

pub places-init : goal.places-init
places-init g c =
    let next = c.next_old-place.ensures in record {
      callable = c.requires;
      old = next.old;
      shed = sheds_on _ next.same next.within.0 next.within.1 next.young (none_shed g.I.PartialEq.eq _ _);
      called = called_on _ next.same next.within.0 next.within.1 next.young _ _ (none_called _ _ _ _);
    }

pub places-preserved : goal.places-preserved
places-preserved g c =
    let old = c.places.invariant.old _ c.end_at.ensures.ended.there in
    let next = c.next_old-place-in-places.ensures in record {
      callable = search of_calls;
      old = next.old;
      shed = sheds_on _ next.same next.within.0 next.within.1 next.young
          (sheds_old c.places.invariant.shed g.met.I.Eq.laws c.end_at.ensures.ended old);
      called = called_on _ next.same next.within.0 next.within.1 next.young _ _
          (called_old _ _ _ c.places.invariant.called c.end_at.ensures.ended old
          (rw (same_Some _ _ (sym (ap (option_map (λ row. row.0)) c.end_at.ensures.ended.there) ∙ c.end_at.ensures.id)) c.f.ensures));
    }

pub returns-clause-called : goal.returns-clause-called
returns-clause-called g c = (
  _,
  all_called _ _ _ c.places.invariant.called
      (omega (arith, c.len.ensures.count, c.places-test.false)),
)

pub returns-clause-expired : goal.returns-clause-expired
returns-clause-expired g c = all_expired c.places.invariant.shed g.met.I.Eq.laws c.len-count.ensures.orderly c.len.ensures.orderly
    (omega (arith, c.len.ensures.count, c.places-test.false))

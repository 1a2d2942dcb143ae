use Rattle.session_table.proofs.{ap, arith, length, lesser, slice_get_within, young_on, ◌-◌, ◌∙◌}
use Rattle.session_table.proofs.table.SessionTable.next_old.Goals as goal

pub places-preserved-then-is_young_block : goal.places-preserved-then-is_young_block
places-preserved-then-is_young_block g c =
    let same = c.is_young_block.ensures.same in
    let least = lesser 64 (c.len-then-is_young_block.result - c.places.place) in record {
      from = omega (arith, c.places.invariant.from);
      within = omega (
        arith,
        c.min-place.ensures,
        least.1,
        c.len-then-is_young_block.ensures.count,
        c.places.invariant.within,
        ap (λ t. length t.sessions) same,
      );
      young = young_on _ same c.if-place-eq0.true (omega (arith, c.min-place.ensures, least.0))
          c.places.invariant.young (c.is_young_block.ensures.young c.if-is_young_block.true);
      same = same ∙ c.places.invariant.same;
    }

pub returns-clause-old : goal.returns-clause-old
returns-clause-old g c e is =
    absurd (omega (arith, slice_get_within c.places.self.sessions c.places.place e is, c.len.ensures.count, c.places-test.false))

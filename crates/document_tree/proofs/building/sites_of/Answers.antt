use Rattle.document_tree.proofs.{ap, arith, inr, length, length_push, None, read_at, refl, sited_more, subst, sym, used_more, ◌+◌, ◌∙◌}
use Rattle.document_tree.specs.Building.{AreSited}
use Rattle.document_tree.specs.Taking.{part_row}
use Rattle.document_tree.proofs.building.sites_of.Goals as goal

pub returns-then-is_unused-clause-fault : goal.returns-then-is_unused-clause-fault
returns-then-is_unused-clause-fault g c =
    let it = c.if-is_unused.ensures.unused refl in
    inr (
      c.loop-index.index,
      it.0,
      refl,
      read_at c.args.rows.now c.loop-index.index c.index-rows-index.result None c.loop-index-test.true c.index-rows-index.is ∙ it.1,
      it.2,
    )

pub returns-in_default-site_of-clause-all : goal.returns-in_default-site_of-clause-all
returns-in_default-site_of-clause-all g c i l is = c.site_of.ensures.all i l (c.loop-index.invariant.all i l is)

pub loop-index-preserved : goal.loop-index-preserved
loop-index-preserved g c =
    let so = c.loop-index.invariant in
    let n = c.loop-index.index in
    let rows = c.args.rows.now in
    record {
      used = used_more rows c.args.counts.now n (part_row rows n) refl
          (λ r is. c.if-is_unused.ensures.used refl r
          (sym (read_at rows n c.index-rows-index.result None c.loop-index-test.true c.index-rows-index.is) ∙ is)) so.used;
      sited = subst (λ xs. AreSited c.site_of.new.sites.all rows xs (n + 1)) (sym c.push_reserved.ensures.items)
          (sited_more rows c.loop-index.sites.all c.site_of.new.sites.all c.loop-index.noted.items n c.in-Some.site
          (part_row rows n) refl so.long
          (λ r is. c.in-Some.ensures.site r
          (sym (read_at rows n c.index-rows-index-in-loop-index.result None c.loop-index-test.true
          c.index-rows-index-in-loop-index.is) ∙ is))
          c.site_of.ensures.all so.sited);
      long = omega (arith, ap length c.push_reserved.ensures.items, length_push c.loop-index.noted.items c.in-Some.site, so.long);
      room = omega (arith, c.push_reserved.ensures.capacity, so.room);
      told = c.site_of.ensures.told ∙ so.told;
      all = λ i l is. c.site_of.ensures.all i l (so.all i l is);
    }

pub returns-clause-used : goal.returns-clause-used
returns-clause-used g c index r lt is = c.loop-index.invariant.used index r (omega (arith, lt, c.loop-index-test.false)) is

pub returns-clause-sited : goal.returns-clause-sited
returns-clause-sited g c index r lt is = c.loop-index.invariant.sited index r (omega (arith, lt, c.loop-index-test.false)) is

use Rattle.reactive.proofs.Linking.{any_default, begin_waits, one_dropped, taken, Waits, doubted_more, trust_begin, trust_done, trust_more, Trusts, waits_done}
use Rattle.reactive.proofs.{ap, arith, get_or, rules, subst, sym, [], ◌∙◌, ◌≡◌}
use Rattle.reactive.specs.Links.{unknown}
use Rattle.reactive.specs.Visiting.{LeadThrough, next_of}
use Rattle.reactive.proofs.links.Marks.forget.Goals as goal

pub loop-self-init : goal.loop-self-init
loop-self-init c =
    let d = c.drop_readers.ensures.dropped [] (c.begin.ensures.left, tt) in (
      c.drop_readers.ensures.room,
      (
        d.0,
        d.1,
        begin_waits c.args.web.now c.args.self.now.known.items _ _ d.0 c.args.slot c.begin.ensures.here
            c.begin.ensures.others d.2,
        trust_begin c.args.web.now _ c.args.self.now.known.items _ _ c.args.slot d.0 c.doubt.ensures.here
            c.begin.ensures.others d.2,
      ),
      c.doubt.ensures.doubted,
    )

pub index-requires : goal.index-requires
index-requires c =
    let inv = c.loop-self.invariant in
    let t = taken c.loop-self.self inv.1.0 inv.1.1 (search (rules, arith)) in
    let low = t.2 in let long = c.loop-self.self.known.ok.0 in omega (arith, low, long)

pub loop-self-preserved : goal.loop-self-preserved
loop-self-preserved c =
    let inv = c.loop-self.invariant in
    let known = c.loop-self.self.known.items in
    let t = taken c.loop-self.self inv.1.0 inv.1.1 (search (rules, arith)) in
    let mark : get_or known c.loop-self.self.first unknown ≡ c.index.result.now =
    any_default known c.loop-self.self.first unknown c.index.result.now t.2 ∙ sym c.index.ensures in
    let left = t.3 in
    let d = c.drop_readers-in-loop-self.ensures.dropped t.0
    (omega (arith, left), subst (λ next. LeadThrough known next t.0) (ap next_of mark ∙ sym c.next-self.ensures) t.4) in (
      c.drop_readers-in-loop-self.ensures.room,
      (
        d.0,
        d.1,
        one_dropped c.args.web.now c.args.self.now.known.items c.args.slot known _ t.0 d.0 c.loop-self.self.first
            d.2 (subst (λ list. Waits c.args.web.now c.args.self.now.known.items c.args.slot known list) t.1 inv.1.2),
        trust_more c.args.web.now _ _ c.args.self.now.known.items known _ c.args.slot c.loop-self.self.first t.0 d.0
            c.doubt-in-loop-self.ensures.doubted.fewer c.doubt-in-loop-self.ensures.here d.2
            (subst (λ list. Trusts c.loop-self.dirty.clean.items c.args.self.now.known.items c.args.slot known list) t.1 inv.1.3),
      ),
      doubted_more _ _ _ inv.2 c.doubt-in-loop-self.ensures.doubted,
    )

pub returns-clause-forgotten : goal.returns-clause-forgotten
returns-clause-forgotten c =
    let inv = c.loop-self.invariant in
    let done = c.loop-self-test.false in
    let long = inv.1.1.0 in
    waits_done c.args.web.now c.args.self.now.known.items c.loop-self.self.known.items inv.1.0 c.args.slot
    (omega (arith, done, long)) inv.1.2

pub returns-clause-doubted : goal.returns-clause-doubted
returns-clause-doubted c = c.loop-self.invariant.2

pub returns-clause-trusted : goal.returns-clause-trusted
returns-clause-trusted c =
    let inv = c.loop-self.invariant in
    let done = c.loop-self-test.false in
    let long = inv.1.1.0 in
    trust_done _ c.args.self.now.known.items c.loop-self.self.known.items c.args.slot inv.1.0 (omega (arith, done, long)) inv.1.3

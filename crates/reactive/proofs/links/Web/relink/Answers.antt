use Rattle.reactive.proofs.Linking.{begin_relink, kept_web, link_failed, link_more, relinked}
use Rattle.reactive.proofs.{arith, refl, rules, ◌∙◌}
use Rattle.reactive.proofs.links.Web.relink.Goals as goal

pub returns-in_default-clause-failed : goal.returns-in_default-clause-failed
returns-in_default-clause-failed c = λ failed. kept_web c.args.self.now c.args.self.now (λ s. refl) refl refl

pub returns-then-not-reserve-clause-failed : goal.returns-then-not-reserve-clause-failed
returns-then-not-reserve-clause-failed c = λ failed. kept_web c.args.self.now c.reserve.new.self
    c.reserve.ensures.owners c.reserve.ensures.readers c.reserve.ensures.number

pub returns-then-not-link-clause-failed : goal.returns-then-not-link-clause-failed
returns-then-not-link-clause-failed c = λ failed.
    let inv = c.loop-read.invariant in
    link_failed c.args.self.now _ _ c.args.reads.now c.loop-read.read-index _ (search (rules, arith)) c.loop-read.self
    c.link.new.self inv.0
    (record { owners = c.link.ensures.owners; kept = c.link.ensures.kept; only = c.link.ensures.only })
    inv.2 (c.link.ensures.number ∙ inv.3)

pub loop-read-init : goal.loop-read-init
loop-read-init c = (
  begin_relink c.args.self.now _ c.reserve.ensures.owners c.reserve.ensures.readers _ _ c.args.reads.now,
  c.reserve.ensures.room (search rules),
  refl,
  search (rules, arith),
)

pub loop-read-preserved : goal.loop-read-preserved
loop-read-preserved c =
    let inv = c.loop-read.invariant in (
      link_more c.args.self.now _ _ c.args.reads.now c.loop-read.read-index _ (search (rules, arith)) c.loop-read.self
          c.link.new.self inv.0
          (record { owners = c.link.ensures.owners; kept = c.link.ensures.kept; only = c.link.ensures.only })
          (c.link.ensures.added (search rules)),
      rw c.link.ensures.owners inv.1,
      inv.2,
      c.link.ensures.number ∙ inv.3,
    )

pub returns-clause-relinked : goal.returns-clause-relinked
returns-clause-relinked c = λ ok.
    let inv = c.loop-read.invariant in
    relinked c.args.self.now c.loop-read.self _ c.args.key _ c.args.reads.now _
    inv.0 (search (rules, arith)) refl inv.1 refl inv.2 inv.3

use Rattle.reactive.proofs.{arith, book, is_some, kept_true, known_of, known_unblamed, true, true_blames, ◌∙◌, ◌≡◌}
use Rattle.reactive.proofs.nodes.Nodes.refresh.Goals as goal

pub returns-in-Ok-None-clause-refreshed : goal.returns-in-Ok-None-clause-refreshed
returns-in-Ok-None-clause-refreshed g c = λ G s kept.
    let inv = c.loop-step.invariant in
    let went = rw (c.in-Ok-None.field-0-is, inv.1) at c.in-Ok-None.ensures.went in (went G c.args.key (inv.2 G s)).1

pub returns-in-Ok-None-clause-sound : goal.returns-in-Ok-None-clause-sound
returns-in-Ok-None-clause-sound g c = λ G s.
    let inv = c.loop-step.invariant in
    let went = rw (c.in-Ok-None.field-0-is, inv.1) at c.in-Ok-None.ensures.went in (went G c.args.key (inv.2 G s)).0

pub returns-in-Err-clause-sound : goal.returns-in-Err-clause-sound
returns-in-Err-clause-sound g c = λ G s.
    let inv = c.loop-step.invariant in
    let went = rw inv.1 at c.in-Err.ensures.went in went G c.args.key (inv.2 G s)

pub returns-in-Err-clause-refreshed : goal.returns-in-Err-clause-refreshed
returns-in-Err-clause-refreshed g c = λ G s kept.
    let inv = c.loop-step.invariant in
    let blamed = rw inv.1 at c.in-Err.ensures.blamed in
    rw c.go_on.ensures.kinds (blamed G c.args.key (inv.2 G s) (rw (inv.3, inv.6) kept)).first

pub returns-in-Err-clause-blamed : goal.returns-in-Err-clause-blamed
returns-in-Err-clause-blamed g c = λ G s kept.
    let inv = c.loop-step.invariant in
    let blamed = rw inv.1 at c.in-Err.ensures.blamed in
    kept_true G _ c.loop-step.faults c.keep_fault.new.faults c.args.key c.go_on.new.path.items c.loop-step.top.key c.in-Err.fault
    (rw inv.6 kept) (rw inv.3 at (blamed G c.args.key (inv.2 G s) (rw (inv.3, inv.6) kept))) c.keep_fault.ensures

pub returns-in-Err-clause-known : goal.returns-in-Err-clause-known
returns-in-Err-clause-known g c = λ G s kept sure.
    let h = c.loop-step.invariant.4 sure in
    let here : is_some (known_of (book (g.S.AnyStorage.state c.loop-step.self.store) c.loop-step.self.links)
    c.loop-step.top.key) ≡ true = rw (h.3, h.4, h.1) sure in
    let is = c.in-Err.ensures.known here h.5 h.0 in
    absurd (let wrong : ⊥ = grind arith in wrong)

pub returns-in-Ok-None-clause-blamed : goal.returns-in-Ok-None-clause-blamed
returns-in-Ok-None-clause-blamed g c = λ G s kept. rw c.loop-step.invariant.6 kept

pub returns-clause-blamed : goal.returns-clause-blamed
returns-clause-blamed g c = λ G s kept. rw c.loop-step.invariant.6 kept

pub returns-in-Some-clause-refreshed : goal.returns-in-Some-clause-refreshed
returns-in-Some-clause-refreshed g c = λ G s kept.
    true_blames G _ c.args.key c.in-Some.fault (kept c.args.key.id.slot _ c.in-Some.ensures)

pub returns-in-Some-clause-known : goal.returns-in-Some-clause-known
returns-in-Some-clause-known g c = λ G s kept is.
    absurd (known_unblamed s _ c.args.key c.in-Some.fault (kept c.args.key.id.slot _ c.in-Some.ensures) is)

pub returns-clause-sound : goal.returns-clause-sound
returns-clause-sound g c = λ G s. (c.loop-step.invariant.2 G s).sound

pub loop-step-preserved : goal.loop-step-preserved
loop-step-preserved g c =
    let inv = c.loop-step.invariant in (
      c.go_on.ensures.simple,
      c.go_on.ensures.revision ∙ inv.1,
      (λ G s. let went = rw (c.in-Ok-Some.field-0-is, inv.1) at c.in-Ok-Some.ensures.went in
          rw c.in-Ok-Some.field-0-is (went G c.args.key (inv.2 G s))),
      c.go_on.ensures.kinds ∙ inv.3,
      (λ sure.
          let h = inv.4 sure in
          let here : is_some (known_of (book (g.S.AnyStorage.state c.loop-step.self.store) c.loop-step.self.links)
          c.loop-step.top.key) ≡ true = rw (h.3, h.4, h.1) sure in
          let is = c.in-Ok-Some.ensures.known here h.5 h.0 in
          let some = c.in-Ok-Some.field-0-is in
          absurd (let wrong : ⊥ = grind arith in wrong)),
      (λ G s. let left = rw inv.1 at c.go_on.ensures.lasts in
          λ k v h. left G c.args.key (inv.2 G s) k v (inv.5 G s k v h)),
      inv.6,
    )

pub returns-in-Ok-None-clause-lasts : goal.returns-in-Ok-None-clause-lasts
returns-in-Ok-None-clause-lasts g c = λ G s.
    let inv = c.loop-step.invariant in
    let left = rw inv.1 at c.go_on.ensures.lasts in λ k v h. left G c.args.key (inv.2 G s) k v (inv.5 G s k v h)

pub returns-in-Err-clause-lasts : goal.returns-in-Err-clause-lasts
returns-in-Err-clause-lasts g c = λ G s.
    let inv = c.loop-step.invariant in
    let left = rw inv.1 at c.go_on.ensures.lasts in λ k v h. left G c.args.key (inv.2 G s) k v (inv.5 G s k v h)

pub returns-clause-lasts : goal.returns-clause-lasts
returns-clause-lasts g c = λ G s. c.loop-step.invariant.5 G s

use Rattle.reactive.proofs.{ap, arith, arrives, gave_up, inl, kind_by, needs_left, refl, rules, sym, ◌∙◌}
use Rattle.reactive.proofs.{way_back, way_blames, way_known, way_needs, way_on, way_round}
use Rattle.generational_errors.specs.declared.error.StoreError.TheVariants.{OutOfMemory}
use Rattle.reactive.specs.declared.fault.Fault.TheVariants as fault
use Rattle.reactive.proofs.nodes.Nodes.go_on.Goals as goal

pub returns-in-Some-node_of-clause-went : goal.returns-in-Some-node_of-clause-went
returns-in-Some-node_of-clause-went g c = λ G start o.
    let back = way_back o (c.in-Settled.ensures.advanced G o.sound o.last) _ c.in-Some.below c.in-Some.ensures.items in
    record { sound = back.sound; chain = back.chain; others = back.others; last = tt }

pub returns-in_default-clause-went : goal.returns-in_default-clause-went
returns-in_default-clause-went g c = λ G start o.
    way_back o (c.in-Settled.ensures.advanced G o.sound o.last) _ c.in-Some.below c.in-Some.ensures.items

pub returns-in_default-2-clause-went : goal.returns-in_default-2-clause-went
returns-in_default-2-clause-went g c = λ G start o.
    way_back o (c.in-Settled.ensures.advanced G o.sound o.last) _ c.in-Some.below c.in-Some.ensures.items

pub returns-in-Some-node_of-clause-lasts : goal.returns-in-Some-node_of-clause-lasts
returns-in-Some-node_of-clause-lasts g c = λ G start o. (c.in-Settled.ensures.advanced G o.sound o.last).leaves.known

pub returns-in_default-clause-lasts : goal.returns-in_default-clause-lasts
returns-in_default-clause-lasts g c = λ G start o. (c.in-Settled.ensures.advanced G o.sound o.last).leaves.known

pub returns-in_default-2-clause-lasts : goal.returns-in_default-2-clause-lasts
returns-in_default-2-clause-lasts g c = λ G start o. (c.in-Settled.ensures.advanced G o.sound o.last).leaves.known

pub returns-in-None-clause-went : goal.returns-in-None-clause-went
returns-in-None-clause-went g c = λ G start o.
    let a = c.in-Settled.ensures.advanced G o.sound o.last in
    (a.sound, way_known o a (search (rules, arith)) a.stepped)

pub returns-then-is_on-clause-went : goal.returns-then-is_on-clause-went
returns-then-is_on-clause-went g c = λ G start o.
    (needs_left c.in-Needs.next c.in-Needs.place (c.in-Needs.ensures.advanced G o.sound o.last) c.note.ensures.left).sound

pub returns-then-is_on-clause-blamed : goal.returns-then-is_on-clause-blamed
returns-then-is_on-clause-blamed g c = λ G start o kept.
    let a = c.in-Needs.ensures.advanced G o.sound o.last in
    rw c.in-Ok.ensures.items (way_round o _ c.in-Needs.next c.in-Needs.place a.stepped.0
    (rw c.in-Ok.ensures.items at (c.is_on.ensures c.if-is_on.true)))

pub returns-else-is_on-clause-went : goal.returns-else-is_on-clause-went
returns-else-is_on-clause-went g c = λ G start o.
    let a = needs_left c.in-Needs.next c.in-Needs.place (c.in-Needs.ensures.advanced G o.sound o.last) c.note.ensures.left in
    rw c.in-Ok.ensures.items
    (way_on o a c.in-Needs.next c.in-Needs.place a.stepped.0 a.stepped.1)

pub returns-in-Gone-clause-went : goal.returns-in-Gone-clause-went
returns-in-Gone-clause-went g c = λ G start o. (c.in-Gone.ensures.advanced G o.sound o.last).sound

pub returns-in-Gone-clause-blamed : goal.returns-in-Gone-clause-blamed
returns-in-Gone-clause-blamed g c = λ G start o kept.
    let a = c.in-Gone.ensures.advanced G o.sound o.last in
    way_blames o _ (fault.Gone c.in-Gone.other) (
      a.stepped.0,
      a.stepped.1,
      sym (ap (λ kind. kind c.in-Gone.other) c.in-Gone.ensures.kinds) ∙ ap kind_by a.stepped.2,
    )

pub returns-in-NoValue-clause-went : goal.returns-in-NoValue-clause-went
returns-in-NoValue-clause-went g c = λ G start o. (c.in-NoValue.ensures.advanced G o.sound o.last).sound

pub returns-in-NoValue-clause-blamed : goal.returns-in-NoValue-clause-blamed
returns-in-NoValue-clause-blamed g c = λ G start o kept.
    let none = (c.in-NoValue.ensures.advanced G o.sound o.last).stepped in
    way_blames o _ (fault.NoValue c.args.top.key)
    (gave_up G c.args.top.key none.0 none.1 none.2, arrives c.args.top.key, none)

pub returns-in-Some-kept_fault-clause-went : goal.returns-in-Some-kept_fault-clause-went
returns-in-Some-kept_fault-clause-went g c = λ G start o. (c.in-Needs.ensures.advanced G o.sound o.last).sound

pub returns-in-Some-kept_fault-clause-blamed : goal.returns-in-Some-kept_fault-clause-blamed
returns-in-Some-kept_fault-clause-blamed g c = λ G start o kept.
    let a = c.in-Needs.ensures.advanced G o.sound o.last in
    way_needs o _ c.in-Needs.next c.in-Some-kept_fault.fault a.stepped.0
    (kept c.in-Needs.next.id.slot _ c.in-Some-kept_fault.ensures)

pub returns-in-Some-kept_fault-clause-lasts : goal.returns-in-Some-kept_fault-clause-lasts
returns-in-Some-kept_fault-clause-lasts g c = λ G start o. (c.in-Needs.ensures.advanced G o.sound o.last).leaves.known

pub returns-then-not-note-clause-went : goal.returns-then-not-note-clause-went
returns-then-not-note-clause-went g c = λ G start o.
    (needs_left c.in-Needs.next c.in-Needs.place (c.in-Needs.ensures.advanced G o.sound o.last) c.note.ensures.left).sound

pub returns-then-not-note-clause-blamed : goal.returns-then-not-note-clause-blamed
returns-then-not-note-clause-blamed g c = λ G start o kept. way_blames o _ (fault.Store OutOfMemory) (inl refl)

pub returns-in-Err-clause-went : goal.returns-in-Err-clause-went
returns-in-Err-clause-went g c = λ G start o.
    (needs_left c.in-Needs.next c.in-Needs.place (c.in-Needs.ensures.advanced G o.sound o.last) c.note.ensures.left).sound

pub returns-in-Err-clause-blamed : goal.returns-in-Err-clause-blamed
returns-in-Err-clause-blamed g c = λ G start o kept.
    rw c.in-Err.ensures.items (way_blames o _ (fault.Store OutOfMemory) (inl refl))

pub returns-in-Full-clause-went : goal.returns-in-Full-clause-went
returns-in-Full-clause-went g c = λ G start o. (c.in-Full.ensures.advanced G o.sound o.last).sound

pub returns-in-Full-clause-blamed : goal.returns-in-Full-clause-blamed
returns-in-Full-clause-blamed g c = λ G start o kept. way_blames o _ (fault.Store OutOfMemory) (inl refl)

pub returns-in-None-clause-lasts : goal.returns-in-None-clause-lasts
returns-in-None-clause-lasts g c = λ G start o. (c.in-Settled.ensures.advanced G o.sound o.last).leaves.known

pub returns-in-Gone-clause-lasts : goal.returns-in-Gone-clause-lasts
returns-in-Gone-clause-lasts g c = λ G start o. (c.in-Gone.ensures.advanced G o.sound o.last).leaves.known

pub returns-in-NoValue-clause-lasts : goal.returns-in-NoValue-clause-lasts
returns-in-NoValue-clause-lasts g c = λ G start o. (c.in-NoValue.ensures.advanced G o.sound o.last).leaves.known

pub returns-in-Full-clause-lasts : goal.returns-in-Full-clause-lasts
returns-in-Full-clause-lasts g c = λ G start o. (c.in-Full.ensures.advanced G o.sound o.last).leaves.known

pub returns-then-not-note-clause-lasts : goal.returns-then-not-note-clause-lasts
returns-then-not-note-clause-lasts g c = λ G start o.
    (needs_left c.in-Needs.next c.in-Needs.place (c.in-Needs.ensures.advanced G o.sound o.last) c.note.ensures.left).leaves.known

pub returns-in-Err-clause-lasts : goal.returns-in-Err-clause-lasts
returns-in-Err-clause-lasts g c = λ G start o.
    (needs_left c.in-Needs.next c.in-Needs.place (c.in-Needs.ensures.advanced G o.sound o.last) c.note.ensures.left).leaves.known

pub returns-then-is_on-clause-lasts : goal.returns-then-is_on-clause-lasts
returns-then-is_on-clause-lasts g c = λ G start o.
    (needs_left c.in-Needs.next c.in-Needs.place (c.in-Needs.ensures.advanced G o.sound o.last) c.note.ensures.left).leaves.known

pub returns-else-is_on-clause-lasts : goal.returns-else-is_on-clause-lasts
returns-else-is_on-clause-lasts g c = λ G start o.
    (needs_left c.in-Needs.next c.in-Needs.place (c.in-Needs.ensures.advanced G o.sound o.last) c.note.ensures.left).leaves.known

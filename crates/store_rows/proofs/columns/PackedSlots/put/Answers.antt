use Rattle.std.proofs.Common.{ap, arith, length, take, ◌+◌, ◌∙◌, ◌≡◌}
use Rattle.std.proofs.{lemmas.Slice.Zip.length-zip, lemmas.Result.on_ok_weaker}
use Rattle.std.proofs.{lemmas.List.take_more_set}
use Rattle.store_rows.proofs.{get_after, get_behind, take_after, zip_set}
use Rattle.store_rows.proofs.columns.PackedSlots.put.Goals as goal

pub returns-then-slot-len-clause-here : goal.returns-then-slot-len-clause-here
returns-then-slot-len-clause-here c =
    let s = c.self.inside in
    rw (zip_set, ← c.self.view_is)
    (take_more_set _ _ _ (omega (arith, length-zip s.slots.items s.made_at.items)))

pub returns-then-slot-len-clause-rest : goal.returns-then-slot-len-clause-rest
returns-then-slot-len-clause-rest c =
    λ i after. rw (zip_set, ← c.self.view_is) (get_behind _ c.args.slot _ i after)

pub returns-clause-here : goal.returns-clause-here
returns-clause-here c =
    let s = c.self.inside in
    let full : c.args.slot ≡ length c.args.self.now =
    omega (arith, length-zip s.slots.items s.made_at.items, ap length c.self.view_is) in
    on_ok_weaker c.push.result
    (λ more. ap (take (c.args.slot + 1)) more ∙ rw full (take_after c.args.self.now _))
    c.push.ensures.ok

pub returns-clause-rest : goal.returns-clause-rest
returns-clause-rest c =
    let s = c.self.inside in
    let full : c.args.slot ≡ length c.args.self.now =
    omega (arith, length-zip s.slots.items s.made_at.items, ap length c.self.view_is) in
    on_ok_weaker c.push.result
    (λ more i after. rw more (get_after c.args.self.now _ i (omega arith))) c.push.ensures.ok

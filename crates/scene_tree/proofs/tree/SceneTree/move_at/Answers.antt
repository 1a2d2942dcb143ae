use Rattle.scene_tree.proofs.{alike, ap, arith, family_in, kept_detached, kept_moved, length-map, live_number, live_slot, told_in}
use Rattle.scene_tree.proofs.{moved_others, moved_placed, noted_put, one_live, rules, slot_of, spot_left, sym, ◌∙◌}
use Rattle.scene_tree.proofs.tree.SceneTree.move_at.Goals as goal

pub detach-requires-clause-alike : goal.detach-requires-clause-alike
detach-requires-clause-alike g c =
    let may = rw (← c.self.view_is) at c.in_ok-parent.ensures.may in
    alike c.self.invariant.0 (g.met.S.AnyStorage.sound _) c.args.node may.node

pub attach-requires : goal.attach-requires
attach-requires g c =
    let sound = g.met.S.AnyStorage.sound in
    let k = c.self.invariant.0 in
    let may = rw (← c.self.view_is) at c.in_ok-parent.ensures.may in
    let is = rw (← c.self.view_is) at c.in_ok-parent.ensures.parent in
    let apart = rw (← c.self.view_is) at c.in_ok-parent.ensures.apart in
    let left = c.detach.ensures.detached in
    let up = live_slot _ (sound _) k c.in_ok-parent.parent may.parent in
    let child = live_slot _ (sound _) k c.args.node may.node in
    let old = length-map c.self.inside.links.items (family_in c.self.inside.links.items) in
    let new = length-map c.detach.new.links.items (family_in c.detach.new.links.items) in
    let forest = (kept_detached k (sound _) _ c.args.node may.node left).forest in
    let spot = spot_left (told_in c.self.inside.sites) (sound _) k c.args.node may.node left c.args.spot _ is apart in
    let root = ap slot_of left.here in
    let number = c.detach.ensures.number ∙ c.self.invariant.3 in
    let own = live_number (sound _) c.args.node may.node ∙ sym number in
    let parents = live_number (sound _) c.in_ok-parent.parent may.parent ∙ sym number in search (rules, arith)

pub invariant_of-self : goal.invariant_of-self
invariant_of-self g c =
    let sound = g.met.S.AnyStorage.sound in
    let may = rw (← c.self.view_is) at c.in_ok-parent.ensures.may in
    let is = rw (← c.self.view_is) at c.in_ok-parent.ensures.parent in (
      kept_moved (told_in c.self.inside.sites) (sound _) c.self.invariant.0 c.args.node may.node c.detach.ensures.detached _
          c.args.spot
          may is c.attach.ensures.attached,
      c.attach.ensures.linked,
      noted_put c.self.invariant.2 c.args.node c.attach.ensures.noted
          (λ s ne. c.attach.ensures.others s ne ∙ c.detach.ensures.noted s)
          (λ n now same. one_live _ c.args.node n (sound _) c.self.invariant.0.simple may.node now (sym same))
          (λ n now ne. now),
      c.attach.ensures.number ∙ (c.detach.ensures.number ∙ c.self.invariant.3),
    )

pub returns-clause-placed : goal.returns-clause-placed
returns-clause-placed g c =
    let may = rw (← c.self.view_is) at c.in_ok-parent.ensures.may in
    let is = rw (← c.self.view_is) at c.in_ok-parent.ensures.parent in
    rw (← c.self.view_is) (moved_placed (told_in c.self.inside.sites) (g.met.S.AnyStorage.sound _) c.self.invariant.0 c.args.node
    may.node c.detach.ensures.detached _ c.args.spot may is c.attach.ensures.attached)

pub returns-clause-others : goal.returns-clause-others
returns-clause-others g c =
    let may = rw (← c.self.view_is) at c.in_ok-parent.ensures.may in
    let is = rw (← c.self.view_is) at c.in_ok-parent.ensures.parent in
    rw (← c.self.view_is) (moved_others (told_in c.self.inside.sites) (g.met.S.AnyStorage.sound _) c.self.invariant.0 c.args.node
    may.node c.detach.ensures.detached _ c.args.spot may is c.attach.ensures.attached)

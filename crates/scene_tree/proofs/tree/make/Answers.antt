use Rattle.scene_tree.proofs.{above, ap, arith, families, made_number, next_root}
use Rattle.scene_tree.proofs.{slot_in, still_told, sym, tells_here, ◌∙◌}
use Rattle.scene_tree.proofs.tree.make.Goals as goal

pub open_slot-requires-clause-root : goal.open_slot-requires-clause-root
open_slot-requires-clause-root g c =
    ap (λ ls. above (families ls) (slot_in c.handle_at-node.result)) c.reserve.ensures.same
    ∙ (ap (λ (i : _). above (families c.args.links.now.items) i.slot) c.handle_at-node.ensures.id
    ∙ next_root _ (g.met.S.AnyStorage.sound _) c.requires.kept _ _ c.in_ok-raw.raw c.in_ok-raw.ensures.step)

pub returns-clause-here : goal.returns-clause-here
returns-clause-here g c =
    let step = c.in_ok-raw.ensures.step in
    let own = made_number _ _ c.handle_at-node.result (c.in_ok-raw.raw, step, c.handle_at-node.ensures.id)
    ∙ sym c.requires.number in
    tells_here _ c.tell.new.self c.handle_at-node.result c.args.here own
    (omega (arith, c.handle_at-node.ensures.site, c.tell.ensures.told))
    (rw (c.tell.ensures.all, c.handle_at-node.ensures.site) c.in-Ok.ensures.found)

pub returns-clause-tells : goal.returns-clause-tells
returns-clause-tells g c n l =
    still_told _ c.find_or_add.new.self c.tell.new.self _ n l c.tell.ensures.kept c.tell.ensures.all
    c.find_or_add.ensures.told

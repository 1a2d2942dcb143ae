use Rattle.scene_tree.proofs.{ap, is_some, lost_one, pointer_in, same_id_sees, simple_taken, sym, true≢false, ◌∙◌}
use Rattle.scene_tree.proofs.tree.take_value.Goals as goal

pub unreachable-requires : goal.unreachable-requires
unreachable-requires g c =
    let simple = c.requires.simple in
    true≢false (sym c.requires.live
    ∙ ap is_some (sym (same_id_sees _ c.pointer_to.result (pointer_in c.args.node) c.pointer_to.ensures)
    ∙ (sym (simple_taken _ (g.met.S.AnyStorage.sound _) simple.plain simple.unborrowed c.pointer_to.result)
    ∙ (sym c.take_value.ensures.value ∙ c.in-None.is))))

pub returns-clause-value : goal.returns-clause-value
returns-clause-value g c =
    let simple = c.requires.simple in
    sym (same_id_sees _ c.pointer_to.result (pointer_in c.args.node) c.pointer_to.ensures)
    ∙ (sym (simple_taken _ (g.met.S.AnyStorage.sound _) simple.plain simple.unborrowed c.pointer_to.result)
    ∙ (sym c.take_value.ensures.value ∙ c.in-Some.is))

pub returns-clause-lost : goal.returns-clause-lost
returns-clause-lost g c = lost_one (g.met.S.AnyStorage.sound _) c.requires.simple c.args.node c.pointer_to.result
    c.pointer_to.ensures c.requires.live c.in-Some.ensures.ended

use Rattle.scene_tree.proofs.{arith, bared_by, clear_more, count_at, counts, get_or, IsBared, length, List, Node}
use Rattle.scene_tree.proofs.{slice_get-get_or, slot_in, subst, sym, ℕ, ◌<◌, ◌∙◌, ◌≡◌}
use Rattle.scene_tree.proofs.links.clear_all.Goals as goal

-- what is read of a list is counted there
read_counts : {T : Type 0} (items nodes : List (Node T)) (i s : ℕ) (d : Node T) → items ≡ nodes → i < length items
    → s ≡ slot_in (get_or items i d) → 0 < count_at s nodes
read_counts items nodes i s d same lt is =
    subst (λ xs. 0 < count_at s xs) same (counts s items i _ (slice_get-get_or items i d lt) (sym is))

pub clear-requires : goal.clear-requires
clear-requires g c =
    let lt = c.requires.within c.slot_of.result (read_counts _ _ c.loop-node.node-index _ _ c.deref-node-items.ensures.value
    c.loop-node-test.true c.slot_of.ensures) in
    record { within = omega (arith, lt, c.loop-node.invariant.length) }

pub loop-node-preserved : goal.loop-node-preserved
loop-node-preserved g c =
    let links = c.loop-node.links.items in
    let was = c.loop-node.invariant in
    let first = c.requires.within c.slot_of.result (read_counts _ _ c.loop-node.node-index _ _
    c.deref-node-items.ensures.value c.loop-node-test.true c.slot_of.ensures) in
    let lt : c.slot_of.result < length links = omega (arith, first, was.length) in
    let left : IsBared links c.slot_of.result c.clear.new.links.items =
    rw c.clear.ensures.items (bared_by links was.linked c.slot_of.result lt) in record {
      number = c.clear.ensures.number ∙ was.number;
      linked = left.linked;
      length = left.long ∙ was.length;
      cleared = clear_more _ _ _ c.args.nodes.now.items c.deref-node-items.result.now c.loop-node.node-index
          c.slot_of.result _ c.deref-node-items.ensures.value c.loop-node-test.true c.slot_of.ensures was.cleared
          left.alone left.others;
      noted = λ s. left.noted s ∙ was.noted s;
    }

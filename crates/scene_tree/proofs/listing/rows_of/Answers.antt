use Rattle.scene_tree.proofs.{all_rows, ap, arith, child_listed, families, family_in, id_in, length, length-map, listed_none, live_slot}
use Rattle.scene_tree.proofs.{met_root, next_child, next_short, refl, root_listed, rows_for, slice_get, slice_get_read}
use Rattle.scene_tree.proofs.{slice_get_within, slot_passed, Some, subst, sym, unmet_root, ◌++◌, ◌+◌, ◌<◌, ◌∙◌, ◌≡◌}
use Rattle.scene_tree.specs.Building.{AreListed}
use Rattle.scene_tree.proofs.listing.rows_of.Goals as goal

pub loop-slot-init : goal.loop-slot-init
loop-slot-init g c = subst
    (λ xs. AreListed (g.S.AnyStorage.state c.args.store.now) (families c.args.links.now.items) 0 (length xs) xs)
    (sym c.new-rows.ensures.items) (listed_none c.requires.kept)

pub loop-slot-preserved-then-not-is_met : goal.loop-slot-preserved-then-not-is_met
loop-slot-preserved-then-not-is_met g c = slot_passed c.requires.kept c.loop-slot.invariant
    (unmet_root c.args.links.now.items c.requires.noted c.loop-slot.slot c.at-root.result c.at-root.ensures.link
    (sym c.is_met.ensures ∙ c.if-not-is_met.true))

pub push_rows-requires-clause-within : goal.push_rows-requires-clause-within
push_rows-requires-clause-within g c =
    let links = c.args.links.now.items in
    let root = met_root links c.requires.noted c.loop-slot.slot c.at-root.result c.at-root.ensures.link
    (sym c.is_met.ensures ∙ c.if-not-is_met.false) in
    omega (arith, ap (λ i. i.slot) c.id.ensures, root.1, slice_get_within links c.loop-slot.slot c.at-root.result c.at-root.ensures.link)

pub loop-next-init : goal.loop-next-init
loop-next-init g c =
    let links = c.args.links.now.items in
    let rows = c.loop-slot.rows.items in
    let S = g.S.AnyStorage.state c.args.store.now in
    let root = met_root links c.requires.noted c.loop-slot.slot c.at-root.result c.at-root.ensures.link
    (sym c.is_met.ensures ∙ c.if-not-is_met.false) in
    let after : c.push_rows.new.rows.items ≡ rows ++ rows_for (families links) (id_in c.at-root.result.node) =
    c.in_ok-push_rows.ensures ∙ ap (λ i. rows ++ rows_for (families links) i) c.id.ensures in
    let count : c.len-next.result ≡ length rows = omega (arith, c.len-next.ensures) in
    subst (λ n. AreListed S (families links) (c.loop-slot.slot + 1) n c.push_rows.new.rows.items) (sym count)
    (subst (AreListed S (families links) (c.loop-slot.slot + 1) (length rows)) (sym after)
    (root_listed c.requires.kept c.loop-slot.invariant c.at-root.result.node root.0 root.1 root.2))

pub push_rows-requires-in-loop-next-clause-within : goal.push_rows-requires-in-loop-next-clause-within
push_rows-requires-in-loop-next-clause-within g c =
    let links = c.args.links.now.items in
    let rows = c.loop-next.rows.items in
    let lt : c.loop-next.next < length rows = omega (arith, c.len.ensures, c.loop-next-test.true) in
    let here : slice_get rows c.loop-next.next ≡ Some c.index.result.now =
    slice_get_read rows _ c.loop-next.next _ refl lt c.index.ensures in
    let child = next_child c.requires.kept c.loop-next.invariant c.index.result.now here in
    omega (arith, ap (λ i. i.slot) child.1, live_slot links (g.met.S.AnyStorage.sound _) c.requires.kept child.0 child.2)

pub loop-next-smaller : goal.loop-next-smaller
loop-next-smaller g c =
    let links = c.args.links.now.items in
    let lt : c.loop-next.next < length c.loop-next.rows.items = omega (arith, c.len.ensures, c.loop-next-test.true) in
    let few : c.loop-next.next < length (families links) = next_short c.requires.kept c.loop-next.invariant lt in
    let same = length-map links (family_in links) in
    grind (arith, few, same)

pub loop-next-preserved : goal.loop-next-preserved
loop-next-preserved g c =
    let links = c.args.links.now.items in
    let rows = c.loop-next.rows.items in
    let lt : c.loop-next.next < length rows = omega (arith, c.len.ensures, c.loop-next-test.true) in
    let here : slice_get rows c.loop-next.next ≡ Some c.index.result.now =
    slice_get_read rows _ c.loop-next.next _ refl lt c.index.ensures in
    let child = next_child c.requires.kept c.loop-next.invariant c.index.result.now here in
    let after : c.push_rows-in-loop-next.new.rows.items ≡ rows ++ rows_for (families links) (id_in child.0) =
    c.in_ok-push_rows-2.ensures ∙ ap (λ i. rows ++ rows_for (families links) i) (sym child.1) in
    subst (AreListed (g.S.AnyStorage.state c.args.store.now) (families links) (c.loop-slot.slot + 1) (c.loop-next.next + 1)) (sym after)
    (child_listed c.requires.kept c.loop-next.invariant lt child.0 child.2 child.3)

pub returns : goal.returns
returns g c = all_rows c.args.links.now.items (g.met.S.AnyStorage.sound _) c.requires.kept c.loop-slot.rows.items c.loop-slot.slot
    (omega (arith, c.loop-slot-test.false, c.len-slot-end.ensures.count)) c.loop-slot.invariant

use Rattle.scene_tree.proofs.{alone, arith, families, family_at, id_in, kept_linked, live_number, refl, row_at, rows_linked, slot_in}
use Rattle.scene_tree.proofs.{subst, sym, ◌∙◌, ◌≡◌, ◌≢◌}
use Rattle.scene_tree.specs.Building.{AreRowsOf}
use Rattle.scene_tree.proofs.rebuilding.link_row.Goals as goal

pub attach-requires-clause-numbers : goal.attach-requires-clause-numbers
attach-requires-clause-numbers g c = (
  live_number (g.met.S.AnyStorage.sound _) c.in-Some.child c.in-Some.ensures.live ∙ sym c.requires.number,
  live_number (g.met.S.AnyStorage.sound _) c.in-Some-find.parent c.in-Some-find.ensures.live ∙ sym c.requires.number,
)

pub returns-clause-kept : goal.returns-clause-kept
returns-clause-kept g c =
    let lone : family_at (families c.args.links.now.items) (slot_in c.in-Some.child) ≡ alone =
    rw c.slot_of.ensures at (c.if-not-is_lone.ensures.0 refl) in
    let apart : id_in c.in-Some-find.parent ≢ id_in c.in-Some.child =
    grind (arith, c.if-eq.ensures, c.in-Some.ensures.found, c.in-Some-find.ensures.found) in
    kept_linked (g.met.S.AnyStorage.sound _) c.requires.kept _ c.requires.rows c.in-Some.child c.in-Some.ensures.live
    (families c.attach.new.links.items) c.in-Some-find.parent c.in-Some-find.ensures.live lone apart c.attach.ensures.attached

pub returns-clause-rows : goal.returns-clause-rows
returns-clause-rows g c =
    let lone : family_at (families c.args.links.now.items) (slot_in c.in-Some.child) ≡ alone =
    rw c.slot_of.ensures at (c.if-not-is_lone.ensures.0 refl) in
    let apart : id_in c.in-Some-find.parent ≢ id_in c.in-Some.child =
    grind (arith, c.if-eq.ensures, c.in-Some.ensures.found, c.in-Some-find.ensures.found) in
    let row = row_at c.args.rows.now c.args.at c.requires.within in
    let child : row.0.child ≡ id_in c.in-Some.child = grind (arith, row.2, c.in-Some.ensures.found) in
    let parent : row.0.parent ≡ id_in c.in-Some-find.parent = grind (arith, row.2, c.in-Some-find.ensures.found) in
    subst (AreRowsOf (g.S.AnyStorage.state c.args.store.now) (families c.attach.new.links.items))
    (sym row.1)
    (rows_linked (g.met.S.AnyStorage.sound _) c.requires.kept _ c.requires.rows c.in-Some.child c.in-Some.ensures.live
    (families c.attach.new.links.items) c.in-Some-find.parent c.in-Some-find.ensures.live lone apart c.attach.ensures.attached
    row.0 child parent)

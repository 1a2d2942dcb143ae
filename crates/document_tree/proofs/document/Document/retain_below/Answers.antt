use Rattle.document_tree.proofs.Flagging.{read_any, swept_more, swept_none, swept_past, swept_whole}
use Rattle.document_tree.proofs.{arith, cell_within, DocumentState, GenerationalPointer, is_some, IsSimple, IsSound, length, refl, slice_get, Some}
use Rattle.document_tree.proofs.{subst, sym, true, value_in, ℕ, ◌<◌, ◌∙◌, ◌≡◌}
use Rattle.std.proofs.lemmas.Option.{slice_get_read}
use Rattle.document_tree.proofs.document.Document.retain_below.Goals as goal
use goal.{else-not-index, then-not-index}

pub loop-at-init : goal.loop-at-init
loop-at-init g c = record { swept = swept_none c.args.self.now c.args.place c.in-Ok.flags.items c.in-Ok-plain_cells.cells.items }

pub index-requires-in-loop-at : goal.index-requires-in-loop-at
index-requires-in-loop-at g c =
    let cells = c.in-Ok-plain_cells.cells.items in
    let lt : c.loop-at.at < length cells = omega (arith, c.len-at-end.ensures, c.loop-at-test.true) in
    let here : slice_get cells c.loop-at.at ≡ Some c.index.result.now =
    slice_get_read cells _ c.loop-at.at _ refl lt c.index.ensures in
    let count = rw (← c.self.view_is) at c.in-Ok.ensures.length in
    omega (
      arith,
      cell_within (g.met.S.AnyStorage.sound _) c.self.invariant.simple c.index.result.now
          (c.in-Ok-plain_cells.ensures.live c.loop-at.at c.index.result.now here).1,
      count,
    )

pub loop-at-preserved : goal.loop-at-preserved
loop-at-preserved g c =
    let flags = c.in-Ok.flags.items in
    let cells = c.in-Ok-plain_cells.cells.items in
    let lt : c.loop-at.at < length cells = omega (arith, c.len-at-end.ensures, c.loop-at-test.true) in
    let here : slice_get cells c.loop-at.at ≡ Some c.index.result.now =
    slice_get_read cells _ c.loop-at.at _ refl lt c.index.ensures in
    let count = rw (← c.self.view_is) at c.in-Ok.ensures.length in
    let within : c.index.result.now.id.slot < length flags =
    omega (
      arith,
      cell_within (g.met.S.AnyStorage.sound _) c.self.invariant.simple c.index.result.now
          (c.in-Ok-plain_cells.ensures.live c.loop-at.at c.index.result.now here).1,
      count,
    ) in
    let flag = read_any flags c.index.result.now.id.slot _ _ within ∙ sym c.index-in-loop-at.ensures in
    record {
      swept = elim c.if-not-index.branch [
        | then-not-index w ↦ rw w.self-is (swept_more c.args.self.now c.args.place flags cells c.loop-at.at c.index.result.now here
            c.loop-at.invariant.swept c.in-Ok.ensures.flagged (flag ∙ w.if-not-index.true) w.remove_by_id.new.self
            w.remove_by_id.ensures.here w.remove_by_id.ensures.others w.remove_by_id.ensures.tells w.remove_by_id.ensures.kept)
        | else-not-index w ↦ rw w.self-is (swept_past c.args.self.now c.args.place flags cells c.loop-at.at c.index.result.now here
            c.loop-at.invariant.swept (flag ∙ w.if-not-index.false))
      ];
    }

pub returns-clause-below : goal.returns-clause-below
returns-clause-below g c = c.loop-at.invariant.swept.below

pub returns-clause-others : goal.returns-clause-others
returns-clause-others g c =
    let cells = c.in-Ok-plain_cells.cells.items in
    swept_whole c.args.self.now c.args.place c.in-Ok.flags.items cells
    (subst (λ (D : DocumentState _). IsSound D.state) c.self.view_is (g.met.S.AnyStorage.sound c.self.inside.store))
    (subst (λ (D : DocumentState _). IsSimple D.state) c.self.view_is c.self.invariant.simple)
    c.in-Ok.ensures.flagged
    (subst (λ (D : DocumentState _). (b : GenerationalPointer) → is_some (value_in D.state b) ≡ true
    → (k : ℕ) × (d : GenerationalPointer) × (slice_get cells k ≡ Some d) × (d.id ≡ b.id)) c.self.view_is
    c.in-Ok-plain_cells.ensures.every)
    c.loop-at.at (omega (arith, c.len-at-end.ensures, c.loop-at-test.false)) c.loop-at.self c.loop-at.invariant.swept

pub returns-clause-tells : goal.returns-clause-tells
returns-clause-tells g c = c.loop-at.invariant.swept.tells

pub returns-clause-kept : goal.returns-clause-kept
returns-clause-kept g c = c.loop-at.invariant.swept.kept

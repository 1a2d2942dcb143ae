use Rattle.document_tree.proofs.Flagging.{listed_none, listed_whole, met_more, none_flagged}
use Rattle.document_tree.proofs.{ap, arith, cell_within, DocumentState, GenerationalPointer, IsDocumentKept, is_some, IsSound, length, refl}
use Rattle.document_tree.proofs.{slice_get, slots, Some, subst, sym, true, value_in, ℕ, ◌<◌, ◌∙◌, ◌≡◌}
use Rattle.document_tree.specs.Flagging.{AreListed, IsFlagged}
use Rattle.std.proofs.lemmas.List.{length-replicate}
use Rattle.std.proofs.lemmas.Option.{slice_get_read}
use Rattle.document_tree.proofs.document.Document.places.Goals as goal

pub loop-at-init : goal.loop-at-init
loop-at-init g c =
    let items = c.in_ok-flags.ensures.items_if_clones_equal (λ y is. is) in
    record {
      listed = subst (λ l. AreListed c.args.self.now l c.in_ok-flags.flags.items) (sym c.new-places.ensures.items)
          (listed_none c.args.self.now
          (subst (λ (D : DocumentState _). IsDocumentKept D.state D.parts D.sites) c.self.view_is c.self.invariant)
          c.in_ok-flags.flags.items
          (λ slot is. none_flagged c.slots.result slot (subst (λ l. IsFlagged l slot) items is)));
      length = ap length items ∙ (length-replicate c.slots.result _
          ∙ subst (λ (D : DocumentState _). c.slots.result ≡ slots D.state) c.self.view_is c.slots.ensures.count);
      met = λ k b q lt. absurd (omega (arith, lt));
    }

pub list-requires-clause-within : goal.list-requires-clause-within
list-requires-clause-within g c =
    let cells = c.in-Ok.cells.items in
    let lt : c.loop-at.at < length cells = omega (arith, c.len-at-end.ensures, c.loop-at-test.true) in
    let here : slice_get cells c.loop-at.at ≡ Some c.index.result.now =
    slice_get_read cells _ c.loop-at.at _ refl lt c.index.ensures in
    let count = rw (← c.self.view_is) at c.loop-at.invariant.length in
    omega (
      arith,
      cell_within (g.met.S.AnyStorage.sound _) c.self.invariant.simple c.index.result.now
          (c.in-Ok.ensures.live c.loop-at.at c.index.result.now here).1,
      count,
    )

pub list-requires-clause-listed : goal.list-requires-clause-listed
list-requires-clause-listed g c = c.loop-at.invariant.listed

pub loop-at-preserved : goal.loop-at-preserved
loop-at-preserved g c =
    let cells = c.in-Ok.cells.items in
    let lt : c.loop-at.at < length cells = omega (arith, c.len-at-end.ensures, c.loop-at-test.true) in
    let here : slice_get cells c.loop-at.at ≡ Some c.index.result.now =
    slice_get_read cells _ c.loop-at.at _ refl lt c.index.ensures in
    record {
      listed = c.in_ok-list.ensures.listed;
      length = c.in_ok-list.ensures.length ∙ c.loop-at.invariant.length;
      met = met_more c.args.self.now cells c.loop-at.flags.items c.list.new.flags.items c.loop-at.at c.index.result.now here
          c.in_ok-list.ensures.here c.in_ok-list.ensures.kept c.loop-at.invariant.met;
    }

pub returns-clause-live : goal.returns-clause-live
returns-clause-live g c = c.loop-at.invariant.listed.live

pub returns-clause-once : goal.returns-clause-once
returns-clause-once g c = c.loop-at.invariant.listed.once

pub returns-clause-every : goal.returns-clause-every
returns-clause-every g c =
    let cells = c.in-Ok.cells.items in
    listed_whole c.args.self.now
    (subst (λ (D : DocumentState _). IsDocumentKept D.state D.parts D.sites) c.self.view_is c.self.invariant)
    (subst (λ (D : DocumentState _). IsSound D.state) c.self.view_is (g.met.S.AnyStorage.sound c.self.inside.store))
    cells
    (subst (λ (D : DocumentState _). (b : GenerationalPointer) → is_some (value_in D.state b) ≡ true
    → (k : ℕ) × (d : GenerationalPointer) × (slice_get cells k ≡ Some d) × (d.id ≡ b.id)) c.self.view_is
    c.in-Ok.ensures.every)
    c.loop-at.at (omega (arith, c.len-at-end.ensures, c.loop-at-test.false)) c.loop-at.places.items c.loop-at.flags.items
    c.loop-at.invariant.listed c.loop-at.invariant.met

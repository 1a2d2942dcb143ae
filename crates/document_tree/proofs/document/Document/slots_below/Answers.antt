use Rattle.document_tree.proofs.Flagging.{below_met, flagged_alike, flagged_first, flagged_then, met_before, met_below, met_cases, met_here, met_none, none_flagged}
use Rattle.document_tree.proofs.{ap, arith, DocumentState, inl, length, refl, slice_get, slots, Some, subst, ◌<◌, ◌∙◌, ◌≡◌}
use Rattle.document_tree.specs.Flagging.{IsFlagged}
use Rattle.std.proofs.lemmas.List.{length-replicate}
use Rattle.std.proofs.lemmas.Option.{slice_get_read}
use Rattle.document_tree.proofs.document.Document.slots_below.Goals as goal

pub flag-requires : goal.flag-requires
flag-requires g c = ap length (c.in_ok-flags.ensures.items_if_clones_equal (λ y is. is)) ∙ (length-replicate c.slots.result _
    ∙ subst (λ (D : DocumentState _). c.slots.result ≡ slots D.state) c.self.view_is c.slots.ensures.count)

pub loop-at-init : goal.loop-at-init
loop-at-init g c =
    let items = c.in_ok-flags.ensures.items_if_clones_equal (λ y is. is) in
    record {
      flagged = flagged_first c.args.self.now c.flag.ensures
          (λ slot is. none_flagged c.slots.result slot (subst (λ l. IsFlagged l slot) items is))
          (λ p one. inl one) (met_none c.args.self.now c.args.place c.in_ok-places.places.items);
      length = c.flag.ensures.length ∙ (ap length items ∙ (length-replicate c.slots.result _
          ∙ subst (λ (D : DocumentState _). c.slots.result ≡ slots D.state) c.self.view_is c.slots.ensures.count));
    }

pub loop-at-preserved : goal.loop-at-preserved
loop-at-preserved g c =
    let places = c.in_ok-places.places.items in
    let lt : c.loop-at.at < length places = omega (arith, c.len-at-end.ensures, c.loop-at-test.true) in
    let here : slice_get places c.loop-at.at ≡ Some c.index.result.now =
    slice_get_read places _ c.loop-at.at _ refl lt c.index.ensures in
    record {
      flagged = flagged_then c.args.self.now c.loop-at.invariant.flagged c.flag_children.ensures
          (met_cases c.args.self.now c.args.place places c.loop-at.at c.index.result.now here)
          (met_before c.args.self.now c.args.place places c.loop-at.at c.index.result.now here)
          (met_here c.args.self.now c.args.place places c.loop-at.at c.index.result.now here);
      length = c.flag_children.ensures.length ∙ c.loop-at.invariant.length;
    }

pub returns-clause-flagged : goal.returns-clause-flagged
returns-clause-flagged g c =
    let places = c.in_ok-places.places.items in
    flagged_alike c.args.self.now c.loop-at.invariant.flagged
    (met_below c.args.self.now c.args.place places c.in_ok-places.ensures.below c.loop-at.at)
    (below_met c.args.self.now c.args.place places c.loop-at.at (omega (arith, c.len-at-end.ensures, c.loop-at-test.false))
    c.in_ok-places.ensures.every)

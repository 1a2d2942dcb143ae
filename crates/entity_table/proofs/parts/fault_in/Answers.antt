use Rattle.std.proofs.Common.{ap, arith, get_or, refl, sym, true, ◌≡◌, ◌∙◌, ◌<◌, ◌+◌, ◌-◌, is_some, None, Some, ℕ, slice_get}
use Rattle.std.proofs.lemmas.Bool.{true≢false}
use Rattle.std.proofs.lemmas.Option.{same_Some, slice_get_read, slice_get_within}
use Rattle.generational_core.specs.declared.boxes.GenerationalBoxId.{GenerationalBoxId}
use Rattle.entity_table.proofs.{falls, from_found, from_none, live_more, rise_all, rise_more}
use Rattle.entity_table.proofs.parts.fault_in.Goals as goal
use Rattle.entity_table.proofs.parts.fault_in.Goals.{else-row-gt0-via-then-row-gt0+else-id-rows, else-row-gt0-via-else-row-gt0}

pub returns-then-is_none-clause-fault : goal.returns-then-is_none-clause-fault
returns-then-is_none-clause-fault g c =
    let there = slice_get_read c.args.rows.now _ c.loop-row.row _ refl c.loop-row-test.true c.index-rows-row.is
    ∙ ap Some c.index-rows-row.is in
    let none : c.find.result ≡ None = grind arith in
    (get_or c.args.rows.now c.loop-row.row c.index-rows-row.result, there, from_none c.find.result _ none c.find.ensures.none)

pub returns-then-is_none-clause-none : goal.returns-then-is_none-clause-none
returns-then-is_none-clause-none g c fits =
    let there = slice_get_read c.args.rows.now _ c.loop-row.row _ refl c.loop-row-test.true c.index-rows-row.is
    ∙ ap Some c.index-rows-row.is in
    let none : c.find.result ≡ None = grind arith in
    let live = fits.live c.loop-row.row (get_or c.args.rows.now c.loop-row.row c.index-rows-row.result) there in
    absurd (true≢false (sym live.2 ∙ ap is_some (from_none c.find.result _ none c.find.ensures.none live.0 live.1)))

pub returns-then-id-rows-clause-fault : goal.returns-then-id-rows-clause-fault
returns-then-id-rows-clause-fault g c =
    let there = slice_get_read c.args.rows.now _ c.loop-row.row _ refl c.loop-row-test.true c.index-rows-row.is
    ∙ ap Some c.index-rows-row.is in
    let before = slice_get_read c.args.rows.now _ (c.loop-row.row - 1) _ refl (omega (arith, c.loop-row-test.true))
    c.index-rows-row-then-row-gt0.is ∙ ap Some c.index-rows-row-then-row-gt0.is in (
      c.loop-row.row - 1,
      get_or c.args.rows.now (c.loop-row.row - 1) c.index-rows-row-then-row-gt0.result,
      get_or c.args.rows.now c.loop-row.row c.index-rows-row.result,
      omega (arith, c.if-row-gt0.true),
      before,
      there,
      c.if-id-rows.true,
    )

pub returns-then-id-rows-clause-none : goal.returns-then-id-rows-clause-none
returns-then-id-rows-clause-none g c fits =
    let there = slice_get_read c.args.rows.now _ c.loop-row.row _ refl c.loop-row-test.true c.index-rows-row.is
    ∙ ap Some c.index-rows-row.is in
    let before = slice_get_read c.args.rows.now _ (c.loop-row.row - 1) _ refl (omega (arith, c.loop-row-test.true))
    c.index-rows-row-then-row-gt0.is ∙ ap Some c.index-rows-row-then-row-gt0.is in
    absurd (falls fits c.loop-row.row (c.loop-row.row - 1) _ _ (omega (arith, c.if-row-gt0.true)) before there c.if-id-rows.true)

pub loop-row-preserved : goal.loop-row-preserved
loop-row-preserved g c =
    let there = slice_get_read c.args.rows.now _ c.loop-row.row _ refl c.loop-row-test.true c.index-rows-row.is
    ∙ ap Some c.index-rows-row.is in
    let some : is_some c.find.result ≡ true = grind arith in
    let found = from_found c.find.result _ _ some c.find.ensures.found c.find.ensures.live in
    let last : (before : ℕ) (q : GenerationalBoxId × g.row.C.Denot) → c.loop-row.row ≡ before + 1
    → slice_get c.args.rows.now before ≡ Some q → q.0.slot < (get_or c.args.rows.now c.loop-row.row c.index-rows-row.result).0.slot =
    elim c.else-row-gt0.branch [
      | else-row-gt0-via-then-row-gt0+else-id-rows w ↦ λ before q is at.
          let prev = slice_get_read c.args.rows.now _ (c.loop-row.row - 1) _ refl (omega (arith, c.loop-row-test.true))
          w.index-rows-row-then-row-gt0.is ∙ ap Some w.index-rows-row-then-row-gt0.is in
          let which : before ≡ c.loop-row.row - 1 = omega (arith, is) in
          let same = same_Some _ _ (sym at ∙ (ap (slice_get c.args.rows.now) which ∙ prev)) in
          omega (arith, w.if-id-rows.false, ap (λ (x : GenerationalBoxId × g.row.C.Denot). x.0.slot) same)
      | else-row-gt0-via-else-row-gt0 w ↦ λ before q is at. absurd (omega (arith, is, w.if-row-gt0.false))
    ] in
    record {
      live = live_more c.args.table.now c.args.rows.now c.loop-row.row (get_or c.args.rows.now c.loop-row.row c.index-rows-row.result) c.loop-row.invariant.live there found;
      rise = rise_more c.args.rows.now c.loop-row.row (get_or c.args.rows.now c.loop-row.row c.index-rows-row.result) c.loop-row.invariant.rise there last;
    }

pub returns-clause-fits : goal.returns-clause-fits
returns-clause-fits g c = record {
  live = λ k r is. c.loop-row.invariant.live k r
      (omega (arith, slice_get_within c.args.rows.now k r is, c.loop-row-test.false)) is;
  ordered = rise_all c.args.rows.now c.loop-row.row (omega (arith, c.loop-row-test.false)) c.loop-row.invariant.rise;
}

use Rattle.std.proofs.Common.{ap, arith, ⊎_elim, ◌∙◌, sym}
use Rattle.live_cells.specs.Cells.{listed_cells}
use Rattle.live_cells.proofs.{fault_told, no_fault, listed_all, listed_live, plain_simple, right_in}
use Rattle.live_cells.proofs.cells.plain_cells.Goals as goal

pub returns-in_err-cells-clause-fault : goal.returns-in_err-cells-clause-fault
returns-in_err-cells-clause-fault g c =
    let told = fault_told (g.S.AnyStorage.state c.args.store.now) c.as_slice.result.now c.in_err-cells.field-0.0
    (c.as_slice.ensures.value ∙ c.in-Ok.ensures.rows) c.in_err-cells.ensures.fault in
    grind (arith, told)

pub returns-clause-simple : goal.returns-clause-simple
returns-clause-simple g c = plain_simple (g.S.AnyStorage.state c.args.store.now) (g.met.S.AnyStorage.sound _) (g.met.S.AnyStorage.bounded _)
    (right_in (g.S.AnyStorage.state c.args.store.now) c.as_slice.result.now (c.as_slice.ensures.value ∙ c.in-Ok.ensures.rows) c.in_ok-cells.ensures.none)

pub returns-clause-live : goal.returns-clause-live
returns-clause-live g c = listed_live (g.S.AnyStorage.state c.args.store.now) (g.met.S.AnyStorage.sound _) (g.met.S.AnyStorage.bounded _)
    (right_in (g.S.AnyStorage.state c.args.store.now) c.as_slice.result.now (c.as_slice.ensures.value ∙ c.in-Ok.ensures.rows) c.in_ok-cells.ensures.none) _
    (c.in_ok-cells.ensures.listed ∙ ap listed_cells (c.as_slice.ensures.value ∙ c.in-Ok.ensures.rows))

pub returns-clause-every : goal.returns-clause-every
returns-clause-every g c = listed_all (g.S.AnyStorage.state c.args.store.now) (g.met.S.AnyStorage.sound _) (g.met.S.AnyStorage.bounded _)
    (right_in (g.S.AnyStorage.state c.args.store.now) c.as_slice.result.now (c.as_slice.ensures.value ∙ c.in-Ok.ensures.rows) c.in_ok-cells.ensures.none) _
    (c.in_ok-cells.ensures.listed ∙ ap listed_cells (c.as_slice.ensures.value ∙ c.in-Ok.ensures.rows))

pub returns-in_err-cells-clause-short : goal.returns-in_err-cells-clause-short
returns-in_err-cells-clause-short g c simple =
    let told = fault_told (g.S.AnyStorage.state c.args.store.now) c.as_slice.result.now c.in_err-cells.field-0.0
    (c.as_slice.ensures.value ∙ c.in-Ok.ensures.rows) c.in_err-cells.ensures.fault in
    let none = no_fault (g.S.AnyStorage.state c.args.store.now) (g.met.S.AnyStorage.sound _) simple c.in_err-cells.field-0.0 told in
    grind (arith, none)

use Rattle.example_callers.proofs.{ap, each_at, empty_again, ended_next, ended_row, ends_free, Err, free_sees}
use Rattle.example_callers.proofs.{is_some, IsFree, refl, same_table, shown_at, shown_in, sym, true≢false}
use Rattle.example_callers.proofs.{◌∙◌}
use Rattle.example_callers.proofs.table.Table.remove.Goals as goal

pub returns-in_default-clause-removed : goal.returns-in_default-clause-removed
returns-in_default-clause-removed g c =
    rw (← c.self.view_is) (same_table _ _
    (sym (empty_again _ _ c.args.row (sym c.box_in.ensures ∙ c.in_default.is))) refl)

pub invariant_of-self : goal.invariant_of-self
invariant_of-self g c =
    (ended_row (g.met.S.AnyStorage.sound _) _ c.self.invariant c.args.row c.in-Some.target
    (sym c.box_in.ensures ∙ c.in-Some.is) c.in-Ok.ensures).0

pub unreachable-requires : goal.unreachable-requires
unreachable-requires g c =
    let free = each_at (IsFree _) _ c.args.row c.in-Some.target c.self.invariant.free
    (sym c.box_in.ensures ∙ c.in-Some.is) in
    true≢false (sym (ends_free _ {U = Unit {0}} (Err c.in-Err.field-0) c.in-Err.ensures free))

pub returns : goal.returns
returns g c =
    let sound = g.met.S.AnyStorage.sound in
    let there = sym c.box_in.ensures ∙ c.in-Some.is in
    let free = each_at (IsFree _) _ c.args.row c.in-Some.target c.self.invariant.free there in
    let saw = free_sees _ _ (sound _) free in
    let row = ended_row (sound _) _ c.self.invariant c.args.row c.in-Some.target there c.in-Ok.ensures in
    rw (← c.self.view_is) (record {
      had = sym (ap is_some (shown_at _ _ c.args.row ∙ (ap (shown_in _) there ∙ saw.1)));
      removed = same_table _ _ row.1 (ended_next _ _ c.in-Ok.ensures);
    })

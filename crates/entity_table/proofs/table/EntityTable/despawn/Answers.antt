use Rattle.entity_table.proofs.{ap, arith, count, ended_count, ended_gone, ended_others, Err, from_some, is_some}
use Rattle.entity_table.proofs.{kept_ended, quiet_ends, rows_count, sym, true, true≢false}
use Rattle.entity_table.proofs.{value_of, ◌∙◌, ◌≡◌}
use Rattle.entity_table.proofs.table.EntityTable.despawn.Goals as goal

pub unreachable-requires : goal.unreachable-requires
unreachable-requires g c =
    true≢false (sym (quiet_ends _ {U = Unit {0}} (Err c.in-Err.field-0) c.self.invariant.simple.unborrowed
    c.in-Err.ensures))

pub invariant_of-self-2 : goal.invariant_of-self-2
invariant_of-self-2 g c =
    let live : is_some (value_of c.self.inside.rows c.args.entity) ≡ true = grind arith in
    let gone = from_some c.take.result _ (ap is_some c.take.ensures.taken ∙ live) c.take.ensures.rows in
    rw gone (kept_ended (g.met.S.AnyStorage.sound _) c.self.invariant c.pointer_to.result c.args.entity
    c.pointer_to.ensures live c.in-Ok.ensures)

pub returns-clause-gone : goal.returns-clause-gone
returns-clause-gone g c =
    let live : is_some (value_of c.self.inside.rows c.args.entity) ≡ true = grind arith in
    ended_gone (g.met.S.AnyStorage.sound _) c.self.invariant c.pointer_to.result c.args.entity
    c.pointer_to.ensures live c.in-Ok.ensures

pub returns-clause-others : goal.returns-clause-others
returns-clause-others g c f =
    let live : is_some (value_of c.self.inside.rows c.args.entity) ≡ true = grind arith in
    rw (← c.self.view_is) (ended_others (g.met.S.AnyStorage.sound _) c.self.invariant c.pointer_to.result c.args.entity
    c.pointer_to.ensures live c.in-Ok.ensures f)

pub returns-clause-rows : goal.returns-clause-rows
returns-clause-rows g c =
    let live : is_some (value_of c.self.inside.rows c.args.entity) ≡ true = grind arith in
    let gone = from_some c.take.result _ (ap is_some c.take.ensures.taken ∙ live) c.take.ensures.rows in
    let less = ended_count (g.met.S.AnyStorage.sound _) c.self.invariant c.pointer_to.result c.args.entity
    c.pointer_to.ensures live c.in-Ok.ensures in
    rw (← c.self.view_is) (omega (
      arith,
      rows_count g.row.T.Denot c.take.new.self,
      rows_count g.row.T.Denot c.self.inside.rows,
      ap (λ m. count m.rows) gone,
      less,
    ))

use Rattle.document_tree.proofs.{arith, ended_left, ended_moves, Err}
use Rattle.document_tree.proofs.{gone_ends, id_in, kept_ended}
use Rattle.document_tree.proofs.{led_part}
use Rattle.document_tree.proofs.{pointer_in, quiet_ends, rewritten, same_id_sees}
use Rattle.document_tree.proofs.{simple_still}
use Rattle.document_tree.proofs.{sym, true≢false}
use Rattle.document_tree.proofs.{◌∙◌}
use Rattle.document_tree.proofs.document.Document.remove.Goals as goal

pub unreachable-requires : goal.unreachable-requires
unreachable-requires g c = true≢false (sym (quiet_ends _ {U = Unit {0}} (Err c.in-Err.field-0)
    c.self.invariant.simple.unborrowed c.in-Err.ensures))

pub invariant_of-self : goal.invariant_of-self
invariant_of-self g c =
    let was = rw (← c.self.view_is) at c.in_ok-key.ensures.key in
    let to = led_part c.self.invariant (id_in c.args.place) c.in_ok-key.key was in
    let moves = ended_moves (g.met.S.AnyStorage.sound _) c.pointer_to.result c.args.place c.pointer_to.ensures _ was c.in-Ok.ensures in
    kept_ended c.self.invariant (omega arith) (simple_still (g.met.S.AnyStorage.sound _) c.self.invariant.simple _ _ c.in-Ok.ensures tt tt)
    _ _ moves (c.self.invariant.small _ _ was) to.0 to.1 (rewritten (c.leave.ensures to.0 to.1))

pub returns-clause-parted : goal.returns-clause-parted
returns-clause-parted g c q same =
    let was = rw (← c.self.view_is) at c.in_ok-key.ensures.key in
    let moves = ended_moves (g.met.S.AnyStorage.sound _) c.pointer_to.result c.args.place c.pointer_to.ensures _ was c.in-Ok.ensures in
    sym (same_id_sees _ (pointer_in c.args.place) (pointer_in q) same) ∙ moves.is

pub returns-clause-others : goal.returns-clause-others
returns-clause-others g c =
    let was = rw (← c.self.view_is) at c.in_ok-key.ensures.key in
    let to = led_part c.self.invariant (id_in c.args.place) c.in_ok-key.key was in
    let moves = ended_moves (g.met.S.AnyStorage.sound _) c.pointer_to.result c.args.place c.pointer_to.ensures _ was c.in-Ok.ensures in
    rw (← c.self.view_is) (ended_left c.self.invariant c.args.place _ to.0 to.1 was moves (rewritten (c.leave.ensures to.0 to.1)))

pub returns-clause-ends : goal.returns-clause-ends
returns-clause-ends g c =
    let was = rw (← c.self.view_is) at c.in_ok-key.ensures.key in
    let to = led_part c.self.invariant (id_in c.args.place) c.in_ok-key.key was in
    rw (← c.self.view_is) (λ only. gone_ends c.self.invariant c.args.place _ to.0 to.1 was _ (c.leave.ensures to.0 to.1).changed only)

use Rattle.session_table.proofs.{Entry, Err, HasLost, lost_one, name_of, pointer_in, quiet_ends, same_Some, subst, sym, true≢false, []}
use Rattle.session_table.proofs.{◌∙◌, ◌∷◌}
use Rattle.session_table.proofs.session.end_at.Goals as goal

pub unreachable-requires : goal.unreachable-requires
unreachable-requires g c = true≢false (sym (quiet_ends _ {U = Unit {0}} (Err c.in-Err.field-0)
    c.requires.simple.unborrowed c.in-Err.ensures))

pub returns : goal.returns
returns g c k e at =
    let there = sym c.in-Some.ensures.entry in
    let lost = lost_one (g.met.S.AnyStorage.sound _) c.requires.simple c.in-Some.entry.now c.pointer_to.result
    c.pointer_to.ensures (c.requires.live _ _ there) c.in-Ok.ensures in
    subst (λ (p : _ × Entry _). HasLost (g.S.AnyStorage.state c.args.store.now) (name_of (pointer_in p.1) ∷ [])
    (g.S.AnyStorage.state c.recycle.new.self)) (same_Some _ (k, e) (sym there ∙ at)) lost

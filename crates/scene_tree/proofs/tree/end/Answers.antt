use Rattle.scene_tree.proofs.{Err, lost_one, quiet_ends, sym, true≢false}
use Rattle.scene_tree.proofs.tree.end.Goals as goal

pub unreachable-requires : goal.unreachable-requires
unreachable-requires g c = true≢false (sym (quiet_ends _ {U = Unit {0}} (Err c.in-Err.field-0)
    c.requires.simple.unborrowed c.in-Err.ensures))

pub returns : goal.returns
returns g c = lost_one (g.met.S.AnyStorage.sound _) c.requires.simple c.args.node c.pointer_to.result c.pointer_to.ensures
    c.requires.live c.in-Ok.ensures

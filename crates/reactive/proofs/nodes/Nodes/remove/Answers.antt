use Rattle.reactive.proofs.{book, forgotten, dirtied_itself, dirtied_after, refl, spared_by, written_lives}
use Rattle.reactive.proofs.{end_none, end_others, Err, not_found, key_pointer, quiet_ends, simple_still}
use Rattle.reactive.proofs.{stuck_none, sym, true≢false}
use Rattle.reactive.proofs.nodes.Nodes.remove.Goals as goal

pub returns-in_default-clause-ended : goal.returns-in_default-clause-ended
returns-in_default-clause-ended g c = not_found _ (key_pointer c.args.key) c.in_default.ensures

pub returns-then-not-can_write-clause-ended : goal.returns-then-not-can_write-clause-ended
returns-then-not-can_write-clause-ended g c = stuck_none (g.met.S.AnyStorage.sound _) c.requires.simple c.args.key
    c.in-Some.pointer c.in-Some.ensures c.can_write.ensures c.if-not-can_write.true

pub unreachable-requires : goal.unreachable-requires
unreachable-requires g c = true≢false (sym (quiet_ends _ {U = Unit {0}} (Err c.in-Err.field-0)
    c.requires.simple.unborrowed c.in-Err.ensures))

pub returns-clause-simple : goal.returns-clause-simple
returns-clause-simple g c =
    simple_still (g.met.S.AnyStorage.sound _) c.requires.simple _ _ c.in-Ok.ensures tt tt

pub returns-clause-ended : goal.returns-clause-ended
returns-clause-ended g c = end_none (g.met.S.AnyStorage.sound _) c.requires.simple c.args.key c.in-Some.pointer
    c.in-Some.ensures c.can_write.ensures c.if-not-can_write.false c.in-Ok.ensures

pub returns-clause-others : goal.returns-clause-others
returns-clause-others g c = end_others (g.met.S.AnyStorage.sound _) c.requires.simple c.args.key c.in-Some.pointer
    c.in-Some.ensures c.can_write.ensures c.if-not-can_write.false c.in-Ok.ensures

pub returns-clause-forgotten : goal.returns-clause-forgotten
returns-clause-forgotten g c =
    forgotten (book (g.S.AnyStorage.state c.args.self.now.store) c.args.self.now.links)
    (book (g.S.AnyStorage.state c.recycle.new.self)
    (record { marks = c.forget.new.self; web = c.args.self.now.links.web })) c.args.key refl _ _ refl refl
    c.forget.ensures.forgotten
    (end_others (g.met.S.AnyStorage.sound _) c.requires.simple c.args.key c.in-Some.pointer c.in-Some.ensures
    c.can_write.ensures c.if-not-can_write.false c.in-Ok.ensures)

pub returns-clause-spared : goal.returns-clause-spared
returns-clause-spared g c =
    spared_by (book (g.S.AnyStorage.state c.args.self.now.store) c.args.self.now.links)
    (book (g.S.AnyStorage.state c.recycle.new.self)
    (record { marks = c.forget.new.self; web = c.args.self.now.links.web })) c.args.key
    (written_lives (g.met.S.AnyStorage.sound _) c.requires.simple c.args.key c.in-Some.pointer
    c.in-Some.ensures c.can_write.ensures c.if-not-can_write.false)
    c.forget.ensures.spared

pub returns-clause-dirtied : goal.returns-clause-dirtied
returns-clause-dirtied g c =
    dirtied_after (book (g.S.AnyStorage.state c.args.self.now.store) c.args.self.now.links)
    (book (g.S.AnyStorage.state c.recycle.new.self)
    (record { marks = c.forget.new.self; web = c.args.self.now.links.web })) _ _ c.args.key
    c.forget.ensures.doubted c.forget.ensures.trusted
    (end_others (g.met.S.AnyStorage.sound _) c.requires.simple c.args.key c.in-Some.pointer c.in-Some.ensures
    c.can_write.ensures c.if-not-can_write.false c.in-Ok.ensures)

pub returns-in_default-clause-dirtied : goal.returns-in_default-clause-dirtied
returns-in_default-clause-dirtied g c = dirtied_itself _ _

pub returns-then-not-can_write-clause-dirtied : goal.returns-then-not-can_write-clause-dirtied
returns-then-not-can_write-clause-dirtied g c = dirtied_itself _ _

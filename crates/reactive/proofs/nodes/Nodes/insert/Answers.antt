use Rattle.reactive.proofs.{book, forgotten, dirtied_after, made_none, made_puts, made_simple, make_short, refl, sym}
use Rattle.reactive.proofs.nodes.Nodes.insert.Goals as goal

pub returns-in-Ok-clause-simple : goal.returns-in-Ok-clause-simple
returns-in-Ok-clause-simple g c =
    made_simple (g.met.S.AnyStorage.sound _) c.requires.simple _ _ _ c.in-Ok.ensures.step

pub returns-in-Ok-clause-put : goal.returns-in-Ok-clause-put
returns-in-Ok-clause-put g c =
    let sound = g.met.S.AnyStorage.sound in
    let step = c.in-Ok.ensures.step in (
      made_none (sound _) c.args.node c.args.here c.in-Ok.raw _ (sym c.id.ensures) step,
      made_puts (sound _) c.args.node c.args.here c.in-Ok.raw _ (sym c.id.ensures) step,
    )

pub returns-in-Err-clause-short : goal.returns-in-Err-clause-short
returns-in-Err-clause-short g c = (make_short _ _ _ c.in-Err.ensures.step).1

pub returns-in-Ok-clause-forgotten : goal.returns-in-Ok-clause-forgotten
returns-in-Ok-clause-forgotten g c =
    let put = made_puts (g.met.S.AnyStorage.sound _) c.args.node c.args.here c.in-Ok.raw (record { id = c.id.result })
    (sym c.id.ensures) c.in-Ok.ensures.step in
    forgotten (book (g.S.AnyStorage.state c.args.self.now.store) c.args.self.now.links)
    (book (g.S.AnyStorage.state c.leak.new.store)
    (record { marks = c.forget.new.self; web = c.args.self.now.links.web })) (record { id = c.id.result }) refl _ _ refl
    refl c.forget.ensures.forgotten put.others

pub returns-in-Ok-clause-dirtied : goal.returns-in-Ok-clause-dirtied
returns-in-Ok-clause-dirtied g c =
    let put = made_puts (g.met.S.AnyStorage.sound _) c.args.node c.args.here c.in-Ok.raw (record { id = c.id.result })
    (sym c.id.ensures) c.in-Ok.ensures.step in
    dirtied_after (book (g.S.AnyStorage.state c.args.self.now.store) c.args.self.now.links)
    (book (g.S.AnyStorage.state c.leak.new.store)
    (record { marks = c.forget.new.self; web = c.args.self.now.links.web })) _ _ (record { id = c.id.result })
    c.forget.ensures.doubted c.forget.ensures.trusted put.others

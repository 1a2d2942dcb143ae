use Rattle.reactive.proofs.{book, forgotten_more, lost_more, dirtied_more, spared_more}
use Rattle.reactive.proofs.nodes.Nodes.remove_all.Goals as goal

pub loop-key-preserved : goal.loop-key-preserved
loop-key-preserved g c =
    let inv = c.loop-key.invariant in (
      c.remove.ensures.simple,
      lost_more _ _ _ c.args.keys.now c.loop-key.key-index _ c.loop-key-test.true inv.1
          c.remove.ensures.ended c.remove.ensures.others,
      forgotten_more _ _ _ inv.2 c.remove.ensures.forgotten,
      spared_more (book (g.S.AnyStorage.state c.args.self.now.store) c.args.self.now.links)
          (book (g.S.AnyStorage.state c.loop-key.self.store) c.loop-key.self.links)
          (book (g.S.AnyStorage.state c.remove.new.self.store) c.remove.new.self.links) c.args.keys.now c.loop-key.key-index _
          c.loop-key-test.true inv.3 inv.2 inv.1 c.remove.ensures.spared,
      dirtied_more (book (g.S.AnyStorage.state c.args.self.now.store) c.args.self.now.links)
          (book (g.S.AnyStorage.state c.loop-key.self.store) c.loop-key.self.links)
          (book (g.S.AnyStorage.state c.remove.new.self.store) c.remove.new.self.links) _ _ _ inv.4 c.remove.ensures.dirtied,
    )

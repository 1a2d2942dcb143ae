use Rattle.scene_tree.proofs.{arith, packed_within, repacked}
use Rattle.scene_tree.proofs.packed.Links.set_first.Goals as goal

pub index_mut-packed-requires : goal.index_mut-packed-requires
index_mut-packed-requires g c =
    let lt = packed_within _ _ _ _ c.args.slot c.self.view_is c.requires.within in
    omega (arith, lt, c.self.inside.packed.ok.0)

pub code-packed-requires : goal.code-packed-requires
code-packed-requires g c s is =
    let lt = packed_within _ _ _ _ s c.self.view_is (c.requires.first s is) in omega (arith, lt, c.self.invariant)

pub returns-clause-items : goal.returns-clause-items
returns-clause-items g c =
    rw (← c.self.view_is) (repacked _ _ 0 _ _ c.args.slot c.index_mut-packed.result.now _
    (λ l. record l { first = c.args.first }) (omega arith) c.index_mut-packed.ensures.value
    (grind arith))

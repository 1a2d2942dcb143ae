use Rattle.scene_tree.proofs.{arith, packed_length}
use Rattle.scene_tree.proofs.packed.Links.len.Goals as goal

pub returns : goal.returns
returns g c =
    let same = packed_length _ _ _ _ c.self.view_is in record {
      count = omega (arith, same, c.len.ensures, c.self.inside.packed.ok.0);
      most = omega (arith, same, c.self.invariant);
    }

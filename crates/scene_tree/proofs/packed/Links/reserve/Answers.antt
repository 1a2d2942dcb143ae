use Rattle.scene_tree.proofs.{arith, unpacked_length}
use Rattle.scene_tree.proofs.packed.Links.reserve.Goals as goal

pub returns-then-len-clause-room : goal.returns-then-len-clause-room
returns-then-len-clause-room g c = grind (arith, unpacked_length)

pub returns-then-len-clause-fits : goal.returns-then-len-clause-fits
returns-then-len-clause-fits g c = grind (arith, unpacked_length)

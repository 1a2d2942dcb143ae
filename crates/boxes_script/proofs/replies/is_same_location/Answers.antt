use Rattle.boxes_script.proofs.{locations_decide}
use Rattle.std.proofs.Common.{rules}
use Rattle.boxes_script.proofs.replies.is_same_location.Goals as goal

pub returns : goal.returns
returns c = let told = locations_decide c.args.one.now c.args.other.now in search rules

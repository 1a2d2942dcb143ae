use Rattle.std.proofs.Common.{◌≡◌, ◌++◌, map}
use Rattle.handles.specs.Handles.{id_in}
use Rattle.scene_tree.specs.Nodes.{Node}
use Rattle.scene_tree.proofs.listing.push_rows.Given as goal

abbrev pub invariant-loop-node : goal.invariant-loop-node
invariant-loop-node g l = l.rows.items
    ≡ l.fn.rows.items ++ map (λ (c : Node g.row.T.Denot). record { child = id_in c; parent = l.parent }) l.yielded

use Rattle.example_libraries.proofs.{IfOk-weaker, IsRootedIn, Node, None, none-some, parent_of, refl, suc}
use Rattle.example_libraries.proofs.{sym, TreeState, zero, ℕ, ◌∙◌, ◌≡◌}
use Rattle.example_libraries.proofs.trees.freed.Goals as goal

-- a root is no steps below one
root_depth : (t : TreeState ℕ) (n : Node ℕ) → parent_of t n ≡ None → (d : ℕ) → IsRootedIn t d n → d ≡ 0
root_depth t n root zero r = refl
root_depth t n root (suc d) r = absurd (none-some r.0 (sym root ∙ r.1))

pub returns : goal.returns
returns g c = IfOk-weaker c.depth.result _ _ (root_depth c.detach.new.self c.args.node c.in_ok-detach.ensures.root)
    c.depth.ensures.depth

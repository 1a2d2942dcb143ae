use Rattle.std.proofs.Common.{subst, sym}
use Rattle.generational_laws.specs.PlainStores.{IsSimple}
use Rattle.scene_tree.specs.Parts.{AreChildRows}
use Rattle.example_saving.proofs.trees.tree_again.Goals as goal

-- the rows of the tree fit its store, so that only memory may lack
pub returns-in-Err-clause-short : goal.returns-in-Err-clause-short
returns-in-Err-clause-short g c = c.in-Err.ensures.short
    (subst IsSimple (sym c.in-Ok.ensures.state) c.in-Ok.ensures.simple)
    (subst (λ S. AreChildRows S c.in-Ok.parts.rows.items) (sym c.in-Ok.ensures.state) c.in-Ok.ensures.fits)

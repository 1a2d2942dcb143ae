use Rattle.std.proofs.Common.{subst, sym}
use Rattle.generational_laws.specs.PlainStores.{IsSimple}
use Rattle.document_tree.specs.Taking.{AreParts}
use Rattle.example_saving.proofs.documents.document_again.Goals as goal

-- the parts of the document fit its store, so that only memory may lack
pub returns-in-Err-clause-short : goal.returns-in-Err-clause-short
returns-in-Err-clause-short g c = c.in-Err.ensures.short
    (subst IsSimple (sym c.in-Ok.ensures.state) c.in-Ok.ensures.simple)
    (subst (λ S. AreParts S c.in-Ok.parts.parts.items) (sym c.in-Ok.ensures.state) c.in-Ok.ensures.fits)

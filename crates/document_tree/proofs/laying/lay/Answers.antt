use Rattle.document_tree.proofs.{laid_some, told_in}
use Rattle.document_tree.proofs.laying.lay.Goals as goal

pub returns-in-Some : goal.returns-in-Some
returns-in-Some g c = laid_some (told_in c.args.sites.now) c.args.part c.in-Some.part c.laid.result c.in-Some.is
    c.laid.ensures.content c.laid.ensures.children c.laid.ensures.here

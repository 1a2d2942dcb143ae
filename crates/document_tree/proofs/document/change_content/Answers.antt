use Rattle.document_tree.proofs.{FnOnceReturnsAtMut, refl, rules}
use Rattle.document_tree.proofs.document.change_content.Goals as goal

pub returns-clause-changed : goal.returns-clause-changed
returns-clause-changed g c =
    let called : FnOnceReturnsAtMut g.F.FnOnce c.args.f c.args.part.now.content c.f.result c.f.new.arg2 =
    search rules in (c.f.new.arg2, called, refl)

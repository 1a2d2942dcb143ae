use Rattle.document_tree.proofs.{found_here, sym, told_in, ◌∙◌}
use Rattle.document_tree.proofs.document.Document.find.Goals as goal

pub returns-clause-here : goal.returns-clause-here
returns-clause-here g c =
    let is = rw (← c.self.view_is) at c.in-Ok.ensures.key in
    let added = rw (← c.self.view_is) at c.in-Ok.ensures.site in
    rw (← c.self.view_is) (found_here c.self.inside.parts.slots (told_in c.self.inside.sites) (g.met.S.AnyStorage.sound _)
    c.handle_at-2.result c.handle_at.result c.in-Ok.site c.in-Ok.field-0-0
    (c.handle_at-2.ensures.id ∙ sym c.handle_at.ensures.id) c.handle_at-2.ensures.site is added)

use Rattle.document_tree.proofs.{laid_added, laid_fits, laid_shown, laid_whole, told_in}
use Rattle.document_tree.proofs.document.Document.into_parts.Goals as goal

pub returns-clause-shown : goal.returns-clause-shown
returns-clause-shown g c =
    let laid = laid_whole (told_in c.self.inside.sites) c.self.inside.parts.slots c.lay_all.new.rows.items c.in-Some.end
    c.lay_all.ensures.length c.lay_all.ensures.laid c.in-Some.ensures in
    rw (← c.self.view_is) (laid_shown (told_in c.self.inside.sites) c.self.invariant c.lay_all.new.rows.items laid)

pub returns-clause-added : goal.returns-clause-added
returns-clause-added g c =
    let laid = laid_whole (told_in c.self.inside.sites) c.self.inside.parts.slots c.lay_all.new.rows.items c.in-Some.end
    c.lay_all.ensures.length c.lay_all.ensures.laid c.in-Some.ensures in
    rw (← c.self.view_is) (laid_added (told_in c.self.inside.sites) c.self.invariant c.lay_all.new.rows.items laid)

pub returns-clause-fits : goal.returns-clause-fits
returns-clause-fits g c =
    let laid = laid_whole (told_in c.self.inside.sites) c.self.inside.parts.slots c.lay_all.new.rows.items c.in-Some.end
    c.lay_all.ensures.length c.lay_all.ensures.laid c.in-Some.ensures in
    rw (← c.self.view_is) (laid_fits (told_in c.self.inside.sites) c.self.invariant c.lay_all.new.rows.items laid)

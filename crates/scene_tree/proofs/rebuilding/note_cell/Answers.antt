use Rattle.scene_tree.proofs.{ap, arith, changed_length, HasOpened, length, lone_after, lone_forest, opened_old, slot_in, slot_of}
use Rattle.scene_tree.proofs.{with_kept, ◌<◌, ◌∙◌, ◌≡◌}
use Rattle.scene_tree.proofs.rebuilding.note_cell.Goals as goal

pub returns-clause-lone : goal.returns-clause-lone
returns-clause-lone g c =
    let links = c.args.links.now.items in
    let lone = c.requires.lone in
    let at : slot_in c.handle_at.result ≡ c.args.cell.id.slot = ap (λ i. i.slot) c.handle_at.ensures.id in
    let lt : slot_in c.handle_at.result < length links = omega (arith, at, c.requires.within) in
    let opened : HasOpened links c.handle_at.result c.set_node.new.self.items = rw c.set_node.ensures.items
    (opened_old links lone.linked (lone_forest links lone) c.handle_at.result
    (ap (λ f. slot_of f.parent) (lone.lone (slot_in c.handle_at.result))) lt) in
    lone_after links c.set_node.new.self.items c.handle_at.result lone opened

pub returns-clause-count : goal.returns-clause-count
returns-clause-count g c = rw c.set_node.ensures.items (changed_length c.args.links.now.items _ _)

pub returns-clause-noted : goal.returns-clause-noted
returns-clause-noted g c _ =
    let links = c.args.links.now.items in
    let lone = c.requires.lone in
    let at : slot_in c.handle_at.result ≡ c.args.cell.id.slot = ap (λ i. i.slot) c.handle_at.ensures.id in
    let lt : slot_in c.handle_at.result < length links = omega (arith, at, c.requires.within) in
    let opened : HasOpened links c.handle_at.result c.set_node.new.self.items = rw c.set_node.ensures.items
    (opened_old links lone.linked (lone_forest links lone) c.handle_at.result
    (ap (λ f. slot_of f.parent) (lone.lone (slot_in c.handle_at.result))) lt) in
    (c.handle_at.result, rw (← at) opened.noted, c.handle_at.ensures.id)

pub returns-clause-others : goal.returns-clause-others
returns-clause-others g c s ne =
    let links = c.args.links.now.items in
    let lone = c.requires.lone in
    let at : slot_in c.handle_at.result ≡ c.args.cell.id.slot = ap (λ i. i.slot) c.handle_at.ensures.id in
    let lt : slot_in c.handle_at.result < length links = omega (arith, at, c.requires.within) in
    let opened : HasOpened links c.handle_at.result c.set_node.new.self.items = rw c.set_node.ensures.items
    (opened_old links lone.linked (lone_forest links lone) c.handle_at.result
    (ap (λ f. slot_of f.parent) (lone.lone (slot_in c.handle_at.result))) lt) in
    opened.others s (λ is. ne (is ∙ at))

pub returns-clause-all : goal.returns-clause-all
returns-clause-all g c site l is = rw c.in-Ok.ensures.all (with_kept c.args.sites.now.all c.args.cell.created_at site l is)

use Rattle.scene_tree.proofs.{arith, HasOpened, length, opened_last, opened_old, refl, slot_in, ◌<◌, ◌≡◌}
use Rattle.scene_tree.proofs.links.open_slot.Goals as goal

pub returns-then-slot_of-len : goal.returns-then-slot_of-len
returns-then-slot_of-len g c =
    let links = c.args.links.now.items in
    let last : slot_in c.args.node ≡ length links = omega (arith, c.slot_of.ensures, c.if-slot_of-len.true, c.len.ensures.count) in
    let left : HasOpened links c.args.node c.push.new.self.items =
    rw c.push.ensures.items (opened_last links c.requires.linked c.args.node _ refl refl refl refl last) in
    record {
      number = c.push.ensures.number;
      linked = left.linked;
      opened = left.opened;
      longer = left.longer;
      noted = left.noted;
      others = left.others;
    }

pub returns-else-slot_of-len : goal.returns-else-slot_of-len
returns-else-slot_of-len g c =
    let links = c.args.links.now.items in
    let lt : slot_in c.args.node < length links = grind arith in
    let left : HasOpened links c.args.node c.set_node.new.self.items =
    rw c.set_node.ensures.items
    (opened_old links c.requires.linked c.requires.forest c.args.node c.requires.root lt) in
    record {
      number = c.set_node.ensures.number;
      linked = left.linked;
      opened = left.opened;
      longer = left.longer;
      noted = left.noted;
      others = left.others;
    }

use Rattle.scene_tree.proofs.{arith, first_row, first_within, no_row, one_deeper, placed_short}
use Rattle.scene_tree.proofs.links.next_row.Goals as goal

pub overflow_add-result : goal.overflow_add-result
overflow_add-result g c =
    let lt = placed_short c.args.links.now.items c.requires.forest c.args.depth c.args.slot c.requires.placed in
    omega (arith, lt, c.at.ensures.most)

pub at-requires-in-Some : goal.at-requires-in-Some
at-requires-in-Some g c = first_within _ c.requires.linked c.requires.forest _ _ c.at.result c.at.ensures.link c.in-Some.is

pub returns-in-Some : goal.returns-in-Some
returns-in-Some g c =
    let row = first_row _ c.requires.linked c.requires.forest c.args.depth _ _ c.at-in-Some.result
    c.at.result c.at.ensures.link c.in-Some.is c.at-in-Some.ensures.link in record {
      next = row.0;
      row = (c.requires.placed.0, rw one_deeper (c.args.slot, row.1, c.requires.placed.1), row.2);
    }

pub returns-in-None-clause-next : goal.returns-in-None-clause-next
returns-in-None-clause-next g c = grind (arith, no_row)

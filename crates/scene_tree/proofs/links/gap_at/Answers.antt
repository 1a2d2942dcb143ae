use Rattle.scene_tree.proofs.{among_within, arith, gap_after, gap_before, gap_first, gap_last}
use Rattle.scene_tree.proofs.links.gap_at.Goals as goal

pub sides_at-requires : goal.sides_at-requires
sides_at-requires g c = grind (arith, among_within)

pub sides_at-requires-in-After : goal.sides_at-requires-in-After
sides_at-requires-in-After g c = grind (arith, among_within)

pub returns-in-FirstOf : goal.returns-in-FirstOf
returns-in-FirstOf g c = grind (arith, gap_first)

pub returns-in-LastOf : goal.returns-in-LastOf
returns-in-LastOf g c = grind (arith, gap_last)

pub returns-in-Before : goal.returns-in-Before
returns-in-Before g c = grind (arith, gap_before)

pub returns-in-After : goal.returns-in-After
returns-in-After g c = grind (arith, gap_after)

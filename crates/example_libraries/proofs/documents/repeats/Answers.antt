use Rattle.document_tree.specs.Counting.{HasPlaces}
use Rattle.example_libraries.proofs.Counts.{parts_within}
use Rattle.example_libraries.proofs.{arith, subst, ◌+◌, ◌≡◌}
use Rattle.std.proofs.Common.{◌-◌}
use Rattle.example_libraries.proofs.documents.repeats.Goals as goal

pub overflow_sub-result : goal.overflow_sub-result
overflow_sub-result g c = parts_within c.args.document.now c.part_count-parts.result c.len.result
    c.part_count-parts.ensures.used c.len.ensures

pub returns : goal.returns
returns g c =
    let few = parts_within c.args.document.now c.part_count-parts.result c.len.result
    c.part_count-parts.ensures.used c.len.ensures in
    let sum : c.len.result ≡ c.part_count-parts.result + (c.len.result - c.part_count-parts.result) = omega (arith, few) in
    (c.part_count-parts.result, c.part_count-parts.ensures.used, subst (HasPlaces c.args.document.now) sum c.len.ensures)

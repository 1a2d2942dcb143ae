use Rattle.example_libraries.proofs.Counts.{another_place}
use Rattle.example_libraries.proofs.{arith}
use Rattle.example_libraries.proofs.documents.removed_if_alone.Goals as goal

pub returns-then-branch-gt1-clause-shared : goal.returns-then-branch-gt1-clause-shared
returns-then-branch-gt1-clause-shared g c _ = another_place c.args.document.now c.args.place
    c.in_ok-place_count.field-0 (omega (arith, c.if-branch-gt1.true)) c.in_ok-place_count.ensures.count

use Rattle.std.proofs.Common.{◌≡◌, ◌∙◌, ℕ, List, sym, subst, ap, arith, Option, Some, None}
use Rattle.std.specs.Borrow.{Bor}
use Rattle.std.proofs.lemmas.Bool.{ltb-false}
use Rattle.saved_bytes.specs.FileNames.{IsFound}
use Rattle.saved_bytes.proofs.Files.{location_there, restored_here, restored_there, there_is, there_long}
use Rattle.saved_bytes.proofs.file_names.restored.Goals as goal

pub returns-in-None : goal.returns-in-None
returns-in-None c = λ files names l pairs known same.
    let there = location_there files names c.args.found_files.now c.args.saved l pairs known same in
    let long = there_long c.args.found_files.now c.args.saved.0 there.0 there.1 in
    let short = ltb-false _ _ (sym c.in-None.ensures.lookup.0) in
    absurd (omega arith)

pub returns-in-Some-None : goal.returns-in-Some-None
returns-in-Some-None c = λ files names l pairs known same.
    let there = location_there files names c.args.found_files.now c.args.saved l pairs known same in
    let what : there.0 ≡ None = sym (there_is c.args.found_files.now c.args.saved.0 c.in-Some-None.field-0.now there.0 there.1)
    ∙ (sym c.in-Some-None.ensures.lookup.1 ∙ c.in-Some-None.field-0-is) in
    restored_here files c.args.here l (subst (λ (p : Option (Bor (List ℕ))). IsFound files l.file.now p) what there.2)

pub returns-in-Some-Some : goal.returns-in-Some-Some
returns-in-Some-Some c = λ files names l pairs known same.
    let there = location_there files names c.args.found_files.now c.args.saved l pairs known same in
    let what : there.0 ≡ Some c.in-Some-Some.file = sym (there_is c.args.found_files.now c.args.saved.0 c.in-Some-Some.field-0.now there.0 there.1)
    ∙ (sym c.in-Some-Some.ensures.lookup.1 ∙ c.in-Some-Some.field-0-is) in
    restored_there files c.args.here l c.new.result c.in-Some-Some.file
    (subst (λ (p : Option (Bor (List ℕ))). IsFound files l.file.now p) what there.2)
    (ap (λ (f : Bor (List ℕ)). f.now) c.new.ensures.file) (c.new.ensures.line ∙ there.3) (c.new.ensures.column ∙ there.4)

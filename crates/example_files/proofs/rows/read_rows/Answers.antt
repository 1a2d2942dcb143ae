use Rattle.std.proofs.Common.{◌∙◌, List, ℕ, Some, ap}
use Rattle.example_files.proofs.rows.read_rows.Goals as goal

pub returns-in_ok-image-in-Ok : goal.returns-in_ok-image-in-Ok
returns-in_ok-image-in-Ok g c = λ rows image file fits is same.
    let read = c.in-Ok.ensures.again rows file fits (c.new-input.ensures ∙ same) in
    let left = ap (λ (l : List ℕ). Some l) (c.rest-rest.ensures ∙ read.1) in
    (read.0, (c.in_ok-image-in-Ok.ensures.again image file is left).0)

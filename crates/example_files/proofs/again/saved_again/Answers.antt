use Rattle.std.proofs.Common.{◌≡◌, ◌∙◌, ◌++◌, List, ℕ, Some, ap}
use Rattle.example_files.proofs.again.saved_again.Goals as goal

pub returns-in-Ok : goal.returns-in-Ok
returns-in-Ok g c =
    let wrote = c.in_default.ensures in
    let same : c.as_slice-input.result.now ≡ wrote.0 =
    c.as_slice-input.ensures.value ∙ (wrote.2 ∙ ap (λ (l : List ℕ). l ++ wrote.0) c.new-file.ensures.items) in
    (c.in-Ok.ensures.again c.args.image.now wrote.0 wrote.1 (ap (λ (l : List ℕ). Some l) same)).0

use Rattle.std.proofs.Common.{◌∙◌, ◌++◌, List, ℕ, ap}
use Rattle.saved_bytes.specs.Forms.{spell}
use Rattle.example_files.proofs.rows.write_rows.Goals as goal

pub returns : goal.returns
returns g c =
    let wrote = c.in_ok-write_image.ensures in
    let form = g.R.Saved.form c.args.rows.now in
    let start = c.in_ok-file.ensures.items ∙ c.bytes.ensures in (
      wrote.0,
      wrote.1,
      c.in_ok-encode.ensures.0,
      wrote.2 ∙ (ap (λ (l : List ℕ). l ++ wrote.0) start
          ∙ (c.in_ok-encode.ensures.1 wrote.0 ∙ ap (λ (l : List ℕ). l ++ spell form wrote.0) c.new-out.ensures)),
    )

use Rattle.std.proofs.Common.{◌≡◌, ◌∙◌, ◌++◌, [], List, ℕ, Result, Ok, Err, ap, sym}
use Rattle.std.specs.Prelude.{IfOk}
use Rattle.std.proofs.lemmas.List.{append-nil}
use Rattle.saved_bytes.specs.Forms.{Form, spell, written}
use Rattle.saved_bytes.specs.Reading.{IsRead}
use Rattle.saved_bytes.specs.declared.decode.DecodeError.{DecodeError}
use Rattle.example_files.proofs.again.value_again.Goals as goal

same : {X : Type 0} (form : X → Form) (f : Form) (rest new : List ℕ) (r : Result X DecodeError) → IsRead form f rest r new
    → IfOk r (λ y. form y ≡ f)
same form f rest new (Ok y) h = h.0
same form f rest new (Err e) h = tt

pub returns : goal.returns
returns g c =
    let form = g.T.Saved.form in
    let value = c.args.value.now in
    let out = written c.encode.new.out in
    let spelled : out ≡ spell (form value) [] = sym (append-nil out)
    ∙ (c.in_ok-encode.ensures.1 [] ∙ ap (λ (l : List ℕ). l ++ spell (form value) []) c.new-out.ensures) in
    same form (form value) [] _ c.decode.result
    (c.decode.ensures.again value [] c.in_ok-encode.ensures.0 (c.new-input.ensures ∙ (c.bytes.ensures ∙ spelled)))

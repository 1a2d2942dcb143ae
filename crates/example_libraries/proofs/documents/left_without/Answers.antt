use Rattle.example_libraries.proofs.Counts.{one_less}
use Rattle.example_libraries.proofs.{sym, true≢false}
use Rattle.example_libraries.proofs.documents.left_without.Goals as goal

pub returns : goal.returns
returns g c = one_less c.args.document.now c.remove.new.self c.args.place c.len.result
    (λ none. true≢false (sym (c.in_ok-remove.ensures.gone.1 none))) c.in_ok-remove.ensures.parted
    c.in_ok-remove.ensures.others c.len.ensures

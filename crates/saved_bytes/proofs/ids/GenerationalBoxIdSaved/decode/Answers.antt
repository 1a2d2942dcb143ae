use Rattle.std.proofs.lemmas.Result.{err_from_is_err_and}
use Rattle.saved_bytes.proofs.ids.GenerationalBoxIdSaved.decode.Goals as goal

pub returns-in_err-store-clause-again : goal.returns-in_err-store-clause-again
returns-in_err-store-clause-again c = λ x rest fits is.
    let p = err_from_is_err_and c.from_residual.result c.from_residual.ensures.1 in
    rw (p.1, p.2) (c.in_err-store.ensures.again (x.store, (x.slot, x.generation)) rest fits is)

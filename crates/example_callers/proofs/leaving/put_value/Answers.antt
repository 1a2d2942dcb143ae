use Rattle.example_callers.proofs.{Err, Ok, refused_write, sym, true≢false, writes_back}
use Rattle.example_callers.proofs.leaving.put_value.Goals as goal

pub unreachable-requires : goal.unreachable-requires
unreachable-requires g c =
    let release = rw c.replace.ensures.after at c.in-Err-release.ensures in
    true≢false (sym (writes_back _ _ _ _ _ {U = Unit {0}} (Err c.in-Err-release.field-0)
    c.in-Ok.ensures release).0)

pub returns-clause-set : goal.returns-clause-set
returns-clause-set g c _ =
    let release = rw c.replace.ensures.after at c.in-Ok-release.ensures in
    (writes_back _ _ _ _ _ (Ok c.in-Ok-release.field-0) c.in-Ok.ensures release).1

pub returns-in-Err-clause-refused : goal.returns-in-Err-clause-refused
returns-in-Err-clause-refused g c _ = refused_write _ (Err c.in-Err.field-0) c.in-Err.ensures

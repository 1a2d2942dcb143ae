use Rattle.std.proofs.Common.{Ok, Err, ◌∙◌}
use Rattle.signals.proofs.signal.Signal.set.Goals as goal

pub unreachable-requires : goal.unreachable-requires
unreachable-requires g c =
    let rest = c.released_borrows_leave_the_rest.ensures in
    let release = rw c.set_value.ensures at c.in-Err-release.ensures in
    cc ((rest.written _ _ _ _ _ _ _ _ (Err _) c.in-Ok.ensures release).0)

pub returns : goal.returns
returns g c =
    let rest = c.released_borrows_leave_the_rest.ensures in
    let release = rw c.set_value.ensures at c.in-Ok-release.ensures in
    let set = (rest.written _ _ _ _ _ _ _ _ (Ok tt) c.in-Ok.ensures release).1 in record {
      set = set;
      seen = rest.seen _ _ _ _ set;
      others = rest.others _ _ _ _ set;
      scopes = λ o _ has. rest.owners _ _ _ _ set o ∙ has;
      refused = tt;
      back = tt;
    }

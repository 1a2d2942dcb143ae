use Rattle.std.proofs.Common.{◌≡◌, ◌+◌, ap, arith}
use Rattle.shared_history.specs.Bases.{trimmed_of}
use Rattle.shared_history.specs.Counts.{Counts, counted_of}
use Rattle.shared_records.specs.Kinds.{count_of_kind}
use Rattle.shared_history.proofs.Appending.{each_kind}
use Rattle.shared_history.proofs.log.Log.audit.Goals as goal

pub returns-clause-counts : goal.returns-clause-counts
returns-clause-counts g c =
    let parts = ap (λ (t : Counts). t.parts) c.whole.view_is in
    let books = c.self.invariant in
    each_kind
    (λ k. trimmed_of k c.args.self.now.bases.base + count_of_kind k c.args.self.now.steps ≡ counted_of k c.args.whole.now)
    (rw (← c.self.view_is, ← c.whole.view_is) (omega (arith, c.shown.ensures, c.audit.ensures.whole)))
    (rw (← c.self.view_is, ← c.whole.view_is) (omega (arith, c.shown-2.ensures, c.audit-2.ensures.whole)))
    (rw (← c.self.view_is, ← c.whole.view_is) (omega (arith, c.shown-3.ensures, c.audit-3.ensures.whole)))
    (rw (← c.self.view_is, ← c.whole.view_is) (omega (arith, c.shown-4.ensures, c.audit-4.ensures.whole)))

-- The history is empty after it, and the books are right on the new base.
use Rattle.std.proofs.Common.{arith}
use Rattle.shared_records.specs.declared.step.Kind.TheVariants.{Made, Lent, Changed, Refused}
use Rattle.shared_history.proofs.log.Log.rebase.Goals as goal

pub invariant_of-self-2 : goal.invariant_of-self-2
invariant_of-self-2 g c =
    let none = c.in_ok-steps.ensures.steps in
    let after = c.replace-before.ensures.after in
    let trims = rw (← c.self.view_is) at c.requires in
    let made = trims Made in
    let lent = trims Lent in
    let changed = trims Changed in
    let refused = trims Refused in
    let books = c.self.invariant in
    rw (none, after) (grind arith)

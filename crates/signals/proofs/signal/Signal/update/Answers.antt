use Rattle.generational_core.proofs.{machine.Calls.keeps_known, machine.leaves, machine.Calls.sets}
use Rattle.std.proofs.Common.{sym, ◌∙◌}
use Rattle.signals.proofs.signal.Signal.update.Goals as goal

pub returns-then-not-can_write-clause-scopes : goal.returns-then-not-can_write-clause-scopes
returns-then-not-can_write-clause-scopes g c = rw c.hindrance.ensures.unchanged (λ o names has. has)

pub change_value-requires-clause-callable : goal.change_value-requires-clause-callable
change_value-requires-clause-callable g c = rw c.pointer.ensures c.requires

pub returns : goal.returns
returns g c =
    let done = c.change_value.ensures in
    let sound = g.met.S.AnyStorage.sound in
    let step = rw c.pointer.ensures at done.set in
    let set = sets _ _ _ step in record {
      changed = (done.old, done.new, set.0, done.called, step, set.2);
      free = sym c.if-not-can_write.false ∙ c.can_write.ensures;
      others = λ b apart. leaves _ _ _ _ (sound _) step b (λ e. apart (sym e)) tt;
      scopes = λ o names. keeps_known _ _ (sound _) step o _ tt;
      refused = tt;
    }

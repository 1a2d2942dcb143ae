use Rattle.shared_state.proofs.{set_drops, sym, ◌∙◌}
use Rattle.shared_state.proofs.state.borrowing.set_value.Goals as goal

pub returns-clause-step : goal.returns-clause-step
returns-clause-step g c = (
  c.args.value,
  rw c.new-error.ensures (set_drops c.args.store.now.state c.args.asked c.args.value c.requires
      (sym c.can_write.ensures ∙ c.if-can_write.false)),
)

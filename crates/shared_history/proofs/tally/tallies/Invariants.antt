use Rattle.std.proofs.Common.{◌≡◌, ◌+◌}
use Rattle.shared_history.specs.Counts.{new_tallies}
use Rattle.shared_history.proofs.tally.tallies.Given as goal

abbrev pub invariant-loop-worker : goal.invariant-loop-worker
invariant-loop-worker g l = record {
  made : l.made.amount ≡ 0;
  made_parts : l.made.parts + l.worker ≡ l.workers;
  lent : l.lent.amount ≡ 0;
  lent_parts : l.lent.parts + l.worker ≡ l.workers;
  changed : l.changed.amount ≡ 0;
  changed_parts : l.changed.parts + l.worker ≡ l.workers;
  refused : l.refused.amount ≡ 0;
  refused_parts : l.refused.parts + l.worker ≡ l.workers;
  all : l.all.items ≡ new_tallies l.worker;
}

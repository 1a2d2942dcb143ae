use Rattle.generational_laws.proofs.{free_read_lacks}
use Rattle.generational_laws.proofs.caller_laws.refusals_tell_what_lacks.Goals as goal

pub returns-clause-free_read : goal.returns-clause-free_read
returns-clause-free_read g c = search free_read_lacks

use Rattle.generational_laws.proofs.{made_free, made_shared_free, keeps_free, ends_free}
use Rattle.generational_laws.proofs.{reads_back, free_sees, free_reads}
use Rattle.generational_laws.proofs.laws.unborrowed_boxes_are_free.Goals as goal

pub returns : goal.returns
returns g c =
    search (made_free, made_shared_free, free_sees, free_reads, ends_free, keeps_free, reads_back)

use Rattle.generational_laws.proofs.{◌∙◌, nat_eq, and_parts, eqb-true, Reads, made_new}
use Rattle.generational_laws.proofs.{reads_known, writes_known, meets_number}
use Rattle.generational_laws.proofs.laws.boxes_and_guards_are_new.Goals as goal

pub returns : goal.returns
returns g c = record {
  made = λ S R call b m. (made_new S R call b m).0;
  name = λ S R call b m. (made_new S R call b m).1;
  given = λ S R call b m. (made_new S R call b m).2;
  guard = λ S R call guard m. eqb-true guard.store R.number
      (and_parts (nat_eq guard.store R.number) _ (reads_known S R call guard m).0).0
      ∙ meets_number S R call (Reads guard) m;
  reader = λ S R call guard m. (reads_known S R call guard m).0;
  reader_ticket = λ S R call guard m. (reads_known S R call guard m).1;
  writer = λ S R call guard v m. (writes_known S R call guard v m).0;
  writer_ticket = λ S R call guard v m. (writes_known S R call guard v m).1;
}

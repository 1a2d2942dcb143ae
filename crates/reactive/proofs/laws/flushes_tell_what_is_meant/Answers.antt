use Rattle.reactive.proofs.{all_right, first_told, only_told}
use Rattle.reactive.proofs.Setting.{told_means}
use Rattle.reactive.proofs.laws.flushes_tell_what_is_meant.Goals as goal

pub returns : goal.returns
returns g c = record {
  first = λ same G kind n s e old new news len h at none live. first_told same G kind n s e old new news len h at none live;
  all = λ same G kind n s f old new news len h at. all_right same G kind n s f old new news len h at;
  only = λ same G kind n t old new news h there. only_told same G kind n t old new news h there;
  values = λ same G kind n t v old new news h there is. told_means same G kind n t v old new news h there is;
}

use Rattle.generational_laws.proofs.{meets_location, meets_value}
use Rattle.generational_laws.proofs.laws.undisturbed_values_stay.Goals as goal

pub returns : goal.returns
returns g c = record {
  step = λ S R call answer b m sound meets before after unset.
      meets_value S R call answer m sound meets unset before.here after.here;
  location = meets_location;
}

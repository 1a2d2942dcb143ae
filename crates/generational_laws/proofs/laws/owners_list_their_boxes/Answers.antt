use Rattle.generational_laws.proofs.{owned, lists, listed_last}
use Rattle.generational_laws.proofs.laws.owners_list_their_boxes.Goals as goal

pub returns : goal.returns
returns g c = search (owned, lists, listed_last)

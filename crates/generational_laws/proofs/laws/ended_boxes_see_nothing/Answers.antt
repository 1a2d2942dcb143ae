use Rattle.generational_laws.proofs.{ends, ends_owned, unseen, unread}
use Rattle.generational_laws.proofs.laws.ended_boxes_see_nothing.Goals as goal

pub returns : goal.returns
returns g c = search (ends, ends_owned, unseen, unread)

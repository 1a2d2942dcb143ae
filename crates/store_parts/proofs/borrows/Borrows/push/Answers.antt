-- Another borrow at the end.
use Rattle.store_parts.proofs.borrows.Borrows.push.Goals as goal

pub of_two-requires : goal.of_two-requires
of_two-requires c = rw (← c.self.view_is, c.in-One.is) at c.requires

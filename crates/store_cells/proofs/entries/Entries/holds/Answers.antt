-- Whether a name is a value's.
use Rattle.store_cells.proofs.{found_noted, kept, noted_seen, sym, ◌∙◌}
use Rattle.store_cells.proofs.entries.Entries.holds.Goals as goal

pub returns-then-self-name : goal.returns-then-self-name
returns-then-self-name g c =
    let on = sym c.is_at.ensures ∙ c.if-is_at.true in
    rw (← c.if-self-name.true) (sym (noted_seen (found_noted (kept c.self.view_is c.self.invariant) _ on).2 on))

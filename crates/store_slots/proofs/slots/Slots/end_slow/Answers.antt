-- The end of a name, unless a borrow is in the way.
use Rattle.store_slots.proofs.{ending_hinders, ending_in, name_of_cell, refl, sym, target_told, ◌∙◌}
use Rattle.store_slots.proofs.slots.Slots.end_slow.Goals as goal
use goal.{in-Some+else-not-is_unborrowed, in_default}

pub would_end-ending-requires-clause-target : goal.would_end-ending-requires-clause-target
would_end-ending-requires-clause-target g c = target_told _ c.self.view_is _ c.target-target.ensures

pub take_away-requires-clause-target : goal.take_away-requires-clause-target
take_away-requires-clause-target g c = target_told _ c.self.view_is _ c.target-target.ensures

pub is_unborrowed-requires : goal.is_unborrowed-requires
is_unborrowed-requires g c =
    (ending_in c.self.view_is c.requires (rw c.in-Some.is at c.would_end-ending.ensures)).within

pub returns-then-not-is_unborrowed-clause-known : goal.returns-then-not-is_unborrowed-clause-known
returns-then-not-is_unborrowed-clause-known g c =
    let f = ending_in c.self.view_is c.requires (rw c.in-Some.is at c.would_end-ending.ensures) in
    rw f.so (sym c.if-not-is_unborrowed.true ∙ rw f.there at c.is_unborrowed.ensures)

pub returns-clause-known : goal.returns-clause-known
returns-clause-known g c = elim c.match-ending.branch [
  | in-Some+else-not-is_unborrowed w ↦
      let f = ending_in c.self.view_is c.requires (rw w.in-Some.is at c.would_end-ending.ensures) in
      rw f.so (sym w.if-not-is_unborrowed.false ∙ rw f.there at w.is_unborrowed.ensures)
  | in_default w ↦
      rw (ending_hinders c.args.self.now.state (name_of_cell c.args.name) c.requires _
      (rw w.in_default.is at c.would_end-ending.ensures)) refl
]

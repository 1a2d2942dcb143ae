-- The end of a list of names.
use Rattle.store_slots.proofs.{sym, unborrowed_free, unborrowed_seen, ◌∙◌}
use Rattle.store_slots.proofs.slots.Slots.end_all.Goals as goal

pub remove_all-requires-clause-unborrowed : goal.remove_all-requires-clause-unborrowed
remove_all-requires-clause-unborrowed g c =
    unborrowed_seen _ c.self.view_is _ (sym c.are_unborrowed_values.ensures ∙ c.if-are_unborrowed_values.true)

pub returns-then-are_unborrowed_values : goal.returns-then-are_unborrowed_values
returns-then-are_unborrowed_values g c = (
  unborrowed_free _ c.self.view_is _
      (sym c.are_unborrowed_values.ensures ∙ c.if-are_unborrowed_values.true) c.requires.linked,
  c.remove_all.ensures,
)

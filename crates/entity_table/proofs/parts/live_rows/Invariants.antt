use Rattle.std.proofs.Common.{◌≡◌, ℕ, Some, slice_get}
use Rattle.generational_errors.specs.declared.error.Location.{Location}
use Rattle.handles.specs.Sites.{told_in}
use Rattle.entity_table.proofs.Parting.{AreGiven}
use Rattle.entity_table.proofs.parts.live_rows.Given as goal

-- the cells so far have their rows
abbrev pub invariant-loop-at : goal.invariant-loop-at
invariant-loop-at g l = record {
  given : AreGiven {T = g.row.T.Denot} (g.S.AnyStorage.state l.store) l.cells.items l.at l.sites.all l.rows;
  number : l.rows.number ≡ (g.S.AnyStorage.state l.store).number;
  told : told_in l.sites ≡ told_in l.fn.sites;
  all : (i : ℕ) (k : Location) → slice_get l.fn.sites.all i ≡ Some k → slice_get l.sites.all i ≡ Some k;
}

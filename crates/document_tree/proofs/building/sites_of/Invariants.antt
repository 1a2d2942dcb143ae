use Rattle.std.proofs.Common.{◌≡◌, ◌≤◌, ℕ, Some, length, slice_get, vec_capacity}
use Rattle.generational_errors.specs.declared.error.Location.{Location}
use Rattle.handles.specs.Sites.{told_in}
use Rattle.document_tree.specs.Building.{AreSited, AreUsed}
use Rattle.document_tree.proofs.building.sites_of.Given as goal

-- the parts so far have places and sites
abbrev pub invariant-loop-index : goal.invariant-loop-index
invariant-loop-index g l = record {
  used : AreUsed {T = g.row.T.Denot} l.rows l.counts l.index;
  sited : AreSited {T = g.row.T.Denot} l.sites.all l.rows l.noted.items l.index;
  long : length l.noted.items ≡ l.index;
  room : length l.rows ≤ vec_capacity l.noted;
  told : told_in l.sites ≡ told_in l.fn.sites;
  all : (i : ℕ) (k : Location) → slice_get l.fn.sites.all i ≡ Some k → slice_get l.sites.all i ≡ Some k;
}

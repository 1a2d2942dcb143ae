use Rattle.std.proofs.Common.{◌≡◌, ℕ, Some, length, slice_get}
use Rattle.generational_core.specs.Slots.{slots}
use Rattle.generational_errors.specs.declared.error.Location.{Location}
use Rattle.handles.specs.Sites.{told_in}
use Rattle.scene_tree.proofs.Parting.{AreHeld}
use Rattle.scene_tree.specs.Building.{AreLone}
use Rattle.scene_tree.proofs.rebuilding.lone_links.Given as goal

-- the cells so far are noted
abbrev pub invariant-loop-at : goal.invariant-loop-at
invariant-loop-at g l = record {
  number : l.links.number ≡ (g.S.AnyStorage.state l.store).number;
  lone : AreLone l.links.items;
  count : length l.links.items ≡ slots (g.S.AnyStorage.state l.store);
  held : AreHeld (g.S.AnyStorage.state l.store) l.cells.items l.at l.links.items;
  told : told_in l.sites ≡ told_in l.fn.sites;
  all : (i : ℕ) (k : Location) → slice_get l.fn.sites.all i ≡ Some k → slice_get l.sites.all i ≡ Some k;
}

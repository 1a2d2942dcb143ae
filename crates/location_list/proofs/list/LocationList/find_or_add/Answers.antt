use Rattle.std.proofs.Common.{ap, map, ◌∙◌}
use Rattle.location_list.specs.Locations.{key_location}
use Rattle.location_list.proofs.Keys.{numbered, stays}
use Rattle.location_list.proofs.list.LocationList.find_or_add.Goals as goal

pub returns-then-is_at-clause-added : goal.returns-then-is_at-clause-added
returns-then-is_at-clause-added g c =
    c.self.view_is ∙ stays _ _ _ _ (ap (map key_location) c.as_slice.ensures.keys ∙ c.self.view_is) c.if-is_at.ensures

pub returns-then-is_at-clause-fits : goal.returns-then-is_at-clause-fits
returns-then-is_at-clause-fits g c = numbered c.self.inside.kept.keys c.as_slice.result.now _ g.row.LAST c.args.at
    c.as_slice.ensures.keys c.self.invariant c.if-is_at.ensures

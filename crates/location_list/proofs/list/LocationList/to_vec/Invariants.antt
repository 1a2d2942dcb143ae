use Rattle.std.proofs.Common.{◌≡◌, map, take}
use Rattle.location_list.specs.Locations.{key_location}
use Rattle.location_list.proofs.list.LocationList.to_vec.Given as goal

abbrev pub invariant-loop-key : goal.invariant-loop-key
invariant-loop-key g l = l.all.items ≡ map key_location (take l.key-index l.keys)

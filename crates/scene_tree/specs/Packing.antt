-- How a link lies in 48 bytes.
use Rattle.std.specs.Prelude.{ℕ, suc, List, [], ◌∷◌, Option, None, Some, if◌then◌else◌, nat_eq}
use Rattle.handles.specs.Handles.{at_slot}
use Rattle.scene_tree.specs.declared.links.Link.{Link}
use Rattle.scene_tree.specs.declared.packed.PackedLink.{PackedLink}
use Rattle.scene_tree.specs.Nodes.{Node}

-- the slot of a code: the greatest code is of none
abbrev pub slot_named : ℕ → Option ℕ
slot_named code = if nat_eq code 4294967295 then None else Some code

module _ {T : Type 0} where
  -- the parent, whose store has this number
  abbrev pub parent_in : ℕ → PackedLink → Option (Node T)
  parent_in number p =
      if nat_eq p.up 4294967295 then None else Some (at_slot number p.up p.up_site p.up_generation)

  -- the link of a slot
  abbrev pub unpacked : ℕ → ℕ → PackedLink → Link T
  unpacked number slot p = record {
    node = at_slot number slot p.site p.generation;
    parent = parent_in number p;
    first = slot_named p.first;
    last = slot_named p.last;
    before = slot_named p.before;
    after = slot_named p.after;
  }

  -- the links from a slot on
  abbrev pub unpacked_from : ℕ → ℕ → List PackedLink → List (Link T)
  unpacked_from number slot [] = []
  unpacked_from number slot (p ∷ rest) = unpacked number slot p ∷ unpacked_from number (suc slot) rest

use Rattle.store_parts.proofs.{id_of, name_of_cell, take, ◌++◌, ◌∷◌, ◌≡◌}
use Rattle.std.proofs.Common.{map as list_map}
use Rattle.generational_core.specs.declared.rows.BaseRow.TheVariants as row
use Rattle.store_parts.proofs.owners.OwnerRecord.push_rows.Given as goal

-- the rows of the record and of its boxes so far
abbrev pub invariant-loop-name : goal.invariant-loop-name
invariant-loop-name l =
    l.rows.items ≡ l.fn.rows.items ++ (row.Owner l.self.key l.self.ownership.count
    ∷ list_map (λ n. row.Owned l.self.key (id_of l.number (name_of_cell n)))
    (take l.name-index l.self-inside.boxes.items))

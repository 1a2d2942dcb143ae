use Rattle.std.proofs.Common.{ap, map, slice_get, Some, subst, sym, ◌≡◌, ◌∙◌}
use Rattle.std.specs.List.Sorted.{IsStrictlyIncreasing}
use Rattle.entity_table.specs.Parts.{component_told}
use Rattle.entity_table.proofs.{each_listed, ids_rise, told_listed}
use Rattle.entity_table.proofs.components.ComponentTable.into_parts.Goals as goal

pub returns-in-Ok-clause-shown : goal.returns-in-Ok-clause-shown
returns-in-Ok-clause-shown g c e = rw (← c.self.view_is)
    (ap (λ rows. component_told rows e) c.in-Ok.ensures.values ∙ told_listed c.self.inside.map e)

pub returns-in-Ok-clause-each : goal.returns-in-Ok-clause-each
returns-in-Ok-clause-each g c row r is = rw (← c.self.view_is)
    (each_listed {T = g.row.T.Denot} c.self.inside.map row r
    (subst (λ rows. slice_get rows row ≡ Some r) c.in-Ok.ensures.values is))

pub returns-in-Ok-clause-ordered : goal.returns-in-Ok-clause-ordered
returns-in-Ok-clause-ordered g c =
    subst (λ rows. IsStrictlyIncreasing (map (λ r. r.0.slot) rows)) (sym c.in-Ok.ensures.values)
    (ids_rise g.row.T.Denot c.self.inside.map)

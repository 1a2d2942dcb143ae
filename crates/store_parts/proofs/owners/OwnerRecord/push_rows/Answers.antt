use Rattle.store_parts.proofs.{ap, arith, id_of, KeyedOwnership, Name, owned_all, ◌++◌, ◌∙◌, ◌∷◌}
use Rattle.std.proofs.Common.{map as list_map}
use Rattle.generational_core.specs.declared.rows.BaseRow.TheVariants as row
use Rattle.store_parts.proofs.owners.OwnerRecord.push_rows.Goals as goal

pub returns : goal.returns
returns c =
    let r = c.args.self.now in
    let owned = λ (n : Name). row.Owned r.key (id_of c.args.number n) in
    c.loop-name.invariant
    ∙ ap (λ rows. c.args.rows.now.items ++ (row.Owner r.key r.ownership.count ∷ rows))
    (owned_all owned c.self.inside.boxes.items c.loop-name.name-index
    (omega (arith, c.loop-name-test.false, c.deref-name-items.ensures.len))
    ∙ ap (λ (k : KeyedOwnership). list_map owned k.ownership.names) c.self.view_is)

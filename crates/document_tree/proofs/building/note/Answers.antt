use Rattle.document_tree.proofs.{arith, at_id, false, is_some, Leads, listed_more, None, noted_more, refl, same_id_sees, slice_index_or}
use Rattle.document_tree.proofs.{subst, sym, true, true≢false, [], ◌++◌, ◌∙◌, ◌∷◌, ◌≡◌}
use Rattle.std.specs.Prelude.{slice_set}
use Rattle.document_tree.specs.Building.{HaveParts, ArePlacesNoted}
use Rattle.document_tree.specs.Taking.{part_row}
use Rattle.document_tree.specs.declared.building.Spot.{Spot}
use Rattle.document_tree.proofs.building.note.Goals as goal

pub returns-then-not-has_part-clause-fault : goal.returns-then-not-has_part-clause-fault
returns-then-not-has_part-clause-fault g c =
    let leads : Leads (g.S.AnyStorage.state c.args.store.now) c.in-Some.part.now c.args.cell.id =
    same_id_sees _ (at_id c.args.cell.id) c.args.cell refl ∙ sym c.in-Some.ensures in
    let none : part_row c.args.rows.now c.in-Some.part.now ≡ None = grind arith in
    (c.args.cell.id, c.in-Some.part.now, refl, leads, none)

pub returns-then-not-has_part-clause-short : goal.returns-then-not-has_part-clause-short
returns-then-not-has_part-clause-short g c fits =
    let leads : Leads (g.S.AnyStorage.state c.args.store.now) c.in-Some.part.now c.args.cell.id =
    same_id_sees _ (at_id c.args.cell.id) c.args.cell refl ∙ sym c.in-Some.ensures in
    let none : is_some (part_row c.args.rows.now c.in-Some.part.now) ≡ false = grind arith in
    absurd (true≢false (sym (fits.named c.args.cell.id c.in-Some.part.now leads) ∙ none))

pub returns-clause-noted : goal.returns-clause-noted
returns-clause-noted g c =
    let m : Spot = record { place = c.args.cell; part = c.in-Some.part.now } in
    let leads : Leads (g.S.AnyStorage.state c.args.store.now) c.in-Some.part.now c.args.cell.id =
    same_id_sees _ (at_id c.args.cell.id) c.args.cell refl ∙ sym c.in-Some.ensures in
    let new : slice_index_or c.args.seen.now.items c.args.cell.id.slot false ≡ false = grind arith in
    let pushed : c.push.new.self.items ≡ c.args.spots.now.items ++ m ∷ [] = grind (arith, c.push.ensures.items) in
    subst (λ xs. ArePlacesNoted (g.S.AnyStorage.state c.args.store.now) xs (slice_set c.args.seen.now.items c.args.cell.id.slot true))
    (sym pushed) (noted_more c.requires.noted m leads new c.requires.within)

pub returns-clause-listed : goal.returns-clause-listed
returns-clause-listed g c =
    let m : Spot = record { place = c.args.cell; part = c.in-Some.part.now } in
    let there : is_some (part_row c.args.rows.now c.in-Some.part.now) ≡ true = grind arith in
    let pushed : c.push.new.self.items ≡ c.args.spots.now.items ++ m ∷ [] = grind (arith, c.push.ensures.items) in
    subst (HaveParts c.args.rows.now) (sym pushed)
    (listed_more c.args.rows.now c.args.spots.now.items m c.requires.listed there)

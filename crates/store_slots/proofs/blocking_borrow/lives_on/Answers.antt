use Rattle.store_slots.proofs.{ap, arith, bit, cell_under, CellName, count_by, Entry, get_cells, has_shared, List}
use Rattle.store_slots.proofs.{living, Name, name_of_cell, refers_among, refers_to, refl, sum_by-cons, sym, [], ◌+◌}
use Rattle.store_slots.proofs.{◌∙◌, ◌∷◌, ◌≡◌}
use Rattle.std.proofs.Common.{map as list_map}
use Rattle.store_slots.proofs.blocking_borrow.lives_on.Goals as goal

-- how many of a list's names refer to a cell
listed : {T : Type 0} (slots : List (Entry T)) (items : List CellName) (m : Name)
    → count_by (λ n. refers_to m (cell_under slots (name_of_cell n))) items
    ≡ refers_among slots (list_map name_of_cell items) m
listed slots [] m = refl
listed slots (item ∷ items) m =
    let one = refers_to m (cell_under slots (name_of_cell item)) in
    sum_by-cons (λ n. bit (refers_to m (cell_under slots (name_of_cell n)))) item items
    ∙ (ap (λ k. bit one + k) (listed slots items m)
    ∙ sym (sum_by-cons (λ n. bit (refers_to m (cell_under slots n))) (name_of_cell item)
    (list_map name_of_cell items)))

pub returns-in-Some-Shared : goal.returns-in-Some-Shared
returns-in-Some-Shared g c =
    let slots = c.args.entries.now.slots in
    let n = name_of_cell c.args.value in
    let t = has_shared slots n (grind (arith, get_cells)) in
    rw (
      c.references_among.ensures,
      listed slots c.args.names.now n,
      rw t.there at c.details.ensures.references,
    ) (living slots _ c.requires.referred c.requires.apart n t)

-- Another reference names a slot's cell.
use Rattle.store_cells.proofs.{arith, base, found_details, kept, many, refl, seen, wrote_details, ◌+◌}
use Rattle.store_cells.proofs.entries.Entries.count_up.Goals as goal

pub overflow_add-index_mut : goal.overflow_add-index_mut
overflow_add-index_mut g c =
    let a = (found_details (kept c.self.view_is c.self.invariant) c.requires.within c.index_mut.ensures.value).1 in
    let s = kept c.self.view_is c.self.invariant in
    omega (arith, rw (seen a) at c.requires.few, many s, (base s).small)

pub returns-clause-slots : goal.returns-clause-slots
returns-clause-slots g c =
    let a = (found_details (kept c.self.view_is c.self.invariant) c.requires.within c.index_mut.ensures.value).1 in
    wrote_details a _ (λ e. record e { references = e.references + 1 }) refl

-- One reference less names a slot's cell.
use Rattle.store_cells.proofs.{arith, found_details, kept, refl, seen, wrote_details, ◌-◌}
use Rattle.store_cells.proofs.entries.Entries.count_down.Goals as goal

pub overflow_sub-index_mut : goal.overflow_sub-index_mut
overflow_sub-index_mut g c =
    let a = (found_details (kept c.self.view_is c.self.invariant) c.requires.within c.index_mut.ensures.value).1 in
    omega (arith, rw (seen a) at c.requires.some)

pub returns-clause-slots : goal.returns-clause-slots
returns-clause-slots g c =
    let a = (found_details (kept c.self.view_is c.self.invariant) c.requires.within c.index_mut.ensures.value).1 in
    wrote_details a _ (λ e. record e { references = e.references - 1 }) refl

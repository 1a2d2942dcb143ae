use Rattle.std.proofs.Common.{◌≡◌, ◌<◌, ℕ, None, IfSome, slice_get}
use Rattle.generational_core.specs.Borrowing.{write_refusal}
use Rattle.store_cells.specs.Entry.{content_in}
use Rattle.store_slots.proofs.slots.saving.borrowed_slot.Given as goal

-- the slots so far have no borrows
abbrev pub invariant-loop-slot : goal.invariant-loop-slot
invariant-loop-slot g l = (k : ℕ) → k < l.slot
    → IfSome (slice_get l.entries.slots k) (λ e. write_refusal (content_in e.kept) ≡ None)

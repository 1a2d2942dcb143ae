-- What is said of the borrows that are at a cell.
use Rattle.std.specs.Prelude.{◌≡◌, ◌≢◌, ◌<◌, ◌≤◌, ℕ, true, false, not, nat_eq}
use Rattle.std.specs.Prelude.{List, [], ◌∷◌, length}
use Rattle.std.specs.List.{list_any, filter}
use Rattle.generational_core.specs.declared.borrow.Borrow.{Borrow}
use Rattle.store_parts.specs.declared.borrows.Removal.{Removal}
use Rattle.store_parts.specs.declared.borrows.Removal.TheVariants as removal
use Rattle.store_parts.specs.declared.borrows.OneOrSeveral.{OneOrSeveral}
use Rattle.store_parts.specs.declared.borrows.OneOrSeveral.TheVariants.{One, Several}

-- each ticket of the list is below n
abbrev pub AreTicketsBelow : ℕ → List Borrow → Type 0
AreTicketsBelow n bs = (t : ℕ) → list_any (λ b. nat_eq b.ticket t) bs ≡ true → t < n

-- one borrow, or those of a queue
abbrev pub borrows_in : OneOrSeveral → List Borrow
borrows_in (One b) = b ∷ []
borrows_in (Several queue) = queue.value

-- in a queue two borrows are at least
abbrev pub IsFilled : OneOrSeveral → Type 0
IsFilled (One b) = Unit {0}
IsFilled (Several queue) = 2 ≤ length queue.value

-- there is one borrow, and it has the ticket
abbrev pub IsOnly : ℕ → List Borrow → Type 0
IsOnly t (b ∷ []) = nat_eq b.ticket t ≡ true
IsOnly t _ = ⊥

-- the borrows but the ticket's own, and there are some
abbrev pub AreLeft : ℕ → List Borrow → List Borrow → Type 0
AreLeft t before after = (after ≡ filter (λ b. not (nat_eq b.ticket t)) before) × (after ≢ [])

-- what the removal of a ticket's borrow makes of a list, unless it is the only one
abbrev pub IsRemoval : ℕ → List Borrow → List Borrow → Removal → Type 0
IsRemoval t before after removal.None =
    (list_any (λ b. nat_eq b.ticket t) before ≡ false) × AreLeft t before after
IsRemoval t before after removal.One =
    (list_any (λ b. nat_eq b.ticket t) before ≡ true) × AreLeft t before after
IsRemoval t before after removal.Last = IsOnly t before

-- Seats for borrows in order, of which those between the ends may be dead.
use Rattle.std.specs.Prelude.{◌≡◌, ◌<◌, ◌≤◌, ◌+◌, ◌-◌, ℕ, ◌⊎◌, true, List, length, map}
use Rattle.std.specs.Prelude.{slice_index_or}
use Rattle.std.specs.List.{filter, AllPairs}
use Rattle.generational_core.specs.declared.borrow.Borrow.{Borrow}
use Rattle.store_parts.specs.declared.queue.Seat.{Seat}

-- the active borrows, in order
abbrev pub standing_in : List Seat → List Borrow
standing_in ps = map (λ p. p.borrow) (filter (λ p. p.stands) ps)

-- each ticket is below those behind it, also a dead seat's
abbrev pub TicketsAscend : List Seat → Type 0
TicketsAscend = AllPairs (λ p q. p.borrow.ticket < q.borrow.ticket)

-- the seat at an index lives, if there is one
abbrev pub StandsAt : ℕ → List Seat → Type 0
StandsAt i ps = (d : Seat) → i < length ps → (slice_index_or ps i d).stands ≡ true

-- the seat at an index has the ticket
abbrev pub HasTicketAt : ℕ → List Seat → ℕ → Type 0
HasTicketAt t ps i = (d : Seat) → (slice_index_or ps i d).borrow.ticket ≡ t

-- the ticket's own borrow is at an index
abbrev pub IsOwnSeat : ℕ → List Seat → ℕ → Type 0
IsOwnSeat t ps i = (i < length ps) × HasTicketAt t ps i × StandsAt i ps

-- the seats are those that there were, or those of them that live
abbrev pub AreSeatsKept : List Seat → List Seat → Type 0
AreSeatsKept before after = (after ≡ before) ⊎ (after ≡ filter (λ p. p.stands) before)

-- tickets ascend, the first seat and the last live, and so do half of all at least
pub record IsQueue (seats : List Seat) (live : ℕ) : Type 0 where
  pub ascend : TicketsAscend seats
  pub count : live ≡ length (standing_in seats)
  pub first : StandsAt 0 seats
  pub last : StandsAt (length seats - 1) seats
  pub half : length seats ≤ live + live

-- A state without its values: each call does the same to it, and its answer is the same without values.
pub mod Cells
use Rattle.generational_core.proofs.machine.{get_bare_cell}
use Rattle.std.proofs.Math.Nat.{add-zero}
use Rattle.std.specs.FinMap as map
use Rattle.std.specs.FinSet as set
unfoldable pub use Cells.*

-- ==== a call does the same to a state without its values, and its answer is the same without values

abbrev same_name : Name → Name
same_name n = n

abbrev Any : Name → Type 0
Any n = Unit {0}

any_listed : (names : List Name) → AllByRecursion Any names
any_listed [] = tt
any_listed (n ∷ names) = (tt, any_listed names)

same_ownership : (h : Option Ownership) → option_map (rename_ownership same_name 0) h ≡ h
same_ownership h = grind (arith, map-id)

-- ---- boxes, guards and owners that keep their names are the same

same_box : (number : ℕ) (b : GenerationalPointer) → rename_box same_name 0 number b ≡ b
same_box number b = grind arith

-- ---- a cell that keeps its names and its tickets loses its value alone

same_borrow : (b : Borrow) → shift_borrow same_name 0 b ≡ b
same_borrow b = rw add-zero

same_borrows : (bs : List Borrow) → list_map (shift_borrow same_name 0) bs ≡ bs
same_borrows [] = refl
same_borrows (b ∷ bs) = λ i. same_borrow b i ∷ same_borrows bs i

module _ {T : Type 0} where
  pub get_bare : (cells : NameMap (Cell T)) (n : Name)
      → map.get (bare_cells cells) n ≡ option_map (rename_cell same_name 0 bare) (map.get cells n)
  get_bare cells n = grind (arith, get_bare_cell, same_borrows)

  carries_plain : (S : State T) → Carries same_name 0 bare Any (plain S) S
  carries_plain S = search (arith, get_bare, same_ownership, any_listed)

  -- what carries a state and has its first generation is the state without values
  plain_from : (P : State (Unit {0})) (S : State T)
      → Carries same_name 0 bare Any P S → P.start ≡ S.start → P ≡ plain S
  plain_from P S c start =
      let cells : P.cells ≡ bare_cells S.cells = map.same_map name_total
      name_exact P.cells (bare_cells S.cells) (λ q. c.cells.at q tt ∙ sym (get_bare S.cells q)) in
      let given : P.given ≡ S.given =
      set.same_set name_total name_exact P.given S.given (λ q. c.given q tt) in
      let owners : P.owners ≡ S.owners = map.same_map nat_cmp_total map.nat_cmp-IsAntisymmetric
      P.owners S.owners
      (λ key. rw (add-zero, same_ownership (map.get S.owners key)) at (c.owners key)) in
      grind arith

  all_calls : (number : ℕ) (call : Action T) → KnowsCall Any number call
  all_calls number call = grind arith

  all_fresh : (call : Action T) (new : NewNames) → KnowsNewNames Any call new
  all_fresh call new = grind arith

  -- what keeps its names loses only its value
  same_mapping : (number : ℕ) → renaming same_name 0 (bare {T = T}) number ≡ without_values
  same_mapping number = grind arith

  -- an outcome without values
  abbrev plain_out : Outcome T → Outcome (Unit {0})
  plain_out out = (plain_answer out.0, plain out.1)

  -- a call of the plain state has the same answer and leaves the plain state after it
  pub plain_act : (S : State T) (call : Action T) (new : NewNames)
      → act (plain S) (plain_call call) new ≡ plain_out (act S call new)
  plain_act S call new = let same = same_mapping S.number in
      let out = rw same at
      (act_matched (carries_plain S) call new (all_calls S.number call) (all_fresh call new)) in
      let answer = rw same at out.answer in
      let state = plain_from (act (plain S) (plain_call call) new).1
      (act S call new).1 out.state ((act_start (plain S) (plain_call call) new).start
      ∙ sym (act_start S call new).start) in λ i. (answer i, state i)

  plain_limited : (S : State T) (call : Action T) (new : NewNames) → limit_tickets
      (plain S) (act (plain S) (plain_call call) new) ≡ plain_out (limit_tickets S (act S call new))
  plain_limited S call new = grind (arith, plain_act)

  -- ---- the names that fit

  plain_free : (S : State T) → free (plain S) ≡ free S
  plain_free S = grind (arith, get_bare)

  plain_new : (S : State T) (n : Name) → IsNew S n → IsNew (plain S) n
  plain_new S n new = grind (arith, plain_free, get_bare)

  plain_are_new : (S : State T) (call : Action T) (f : NewNames)
      → AreNew S call f → AreNew (plain S) (plain_call call) f
  plain_are_new S (Action.MakeShared o v l) f new =
      let cell : Cell T = Cell.Shared (Content.Here v []) l in
      let born = plain_from (add_cell (plain S) f.first (rename_cell same_name 0 bare cell))
      (add_cell S f.first cell) (with_born (carries_plain S) f.first cell tt tt) refl in
      (plain_new S f.first new.0, rw born (plain_new (add_cell S f.first cell) f.second new.1))
  plain_are_new S call f new = grind (arith, plain_new)

  -- ---- failed allocations

  plain_reached : (S : State T) (b : GenerationalPointer)
      → is_some (write_refusal (content_of (cell_at (plain S) (reach (plain S) b))))
      ≡ is_some (write_refusal (content_of (cell_at S (reach S b))))
  plain_reached S b = let same = same_box S.number b in
      let cases = reach_cases (carries_plain S) b (λ _. tt) in
      grind (arith, content_there (carries_plain S), refusals_moved same_name 0 (bare {T = T}))

  plain_needs : (S : State T) (answer : Answer T) (call : Action T)
      → needs_memory (plain S) (plain_answer answer) (plain_call call) ≡ needs_memory S answer call
  plain_needs S answer call = grind (arith, plain_free, plain_reached)

  -- each call of a store is one of the store without values
  pub plain_meets : (S R : State T) (call : Action T) (answer : Answer T)
      → Meets S call answer R → Meets (plain S) (plain_call call) (plain_answer answer) (plain R)
  unfolding may_lack
  plain_meets S R call answer h = grind (arith, plain_limited, plain_needs, plain_are_new)

-- a fresh state has no values
pub plain_fresh : (T : Type 0) (number start next : ℕ)
    → plain (fresh {T = T} number start next) ≡ fresh number start next
plain_fresh T number start next =
    sym (plain_from (fresh number start next) (fresh number start next) (search (
      arith,
      any_listed,
      map.get-empty {X = Cell T} name_cmp,
      map.get-empty {X = Cell (Unit {0})} name_cmp,
      map.get-empty {X = Ownership} nat_cmp,
    )) refl)

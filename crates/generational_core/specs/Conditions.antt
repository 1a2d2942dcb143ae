-- Conditions of states, of which the laws speak.
use Rattle.std.specs.Prelude.{List, [], Option, ◌≡◌, ℕ, ◌+◌, ◌≤◌, ◌<◌, true, false}
use Rattle.std.specs.Prelude.{Some, None, is_some}
use Rattle.generational_core.specs.State.{Owners, State, Ownership, IsGiven, HasTargets}
use Rattle.std.specs.FinMap as map
use Rattle.std.specs.FinSet as set
use Rattle.generational_errors.specs.declared.error.Location.{Location}
use Rattle.generational_core.specs.Names.{Name, NameMap, among}
use Rattle.generational_core.specs.Cells.{Cell, is_shared}
use Rattle.generational_core.specs.Cells.Cell.{Ref}
use Rattle.generational_core.specs.Machine.{OwnerName, ownership}
use Rattle.generational_core.specs.Machine.Action.{ReleaseOwner}
use Rattle.generational_core.specs.Machine.Answer.{Done}
use Rattle.generational_core.specs.Steps.{Meets}
use Rattle.generational_core.specs.Slots.{slots, slots_of, last_name, retired}

-- the state without issued names and without owners' records
abbrev pub fresh : {T : Type 0} → ℕ → ℕ → ℕ → State T
fresh number start next =
    record {
      number = number;
      cells = map.empty;
      given = set.empty;
      owners = map.empty;
      next = next;
      peak = 0;
      start = start;
    }

-- a record's boxes, and how many owner values it has: none if there is no record
abbrev pub names_in : Option Ownership → List Name
names_in None = []
names_in (Some h) = h.names

abbrev pub names_under : Owners → ℕ → List Name
names_under owners key = names_in (map.get owners key)

abbrev pub count_in : Option Ownership → ℕ
count_in None = 0
count_in (Some h) = h.count

abbrev pub count_under : Owners → ℕ → ℕ
count_under owners key = count_in (map.get owners key)

module _ {T : Type 0} where
  -- no name was issued, and there is no owner's record
  abbrev pub IsFresh : State T → Type 0
  IsFresh S = S ≡ fresh S.number S.start S.next

  -- a name is live; a name was issued, and isn't live any more
  abbrev pub IsLive : State T → Name → Type 0
  IsLive S n = is_some (map.get S.cells n) ≡ true

  abbrev pub IsEnded : State T → Name → Type 0
  IsEnded S n = IsGiven S n × (map.get S.cells n ≡ None)

  -- a live Ref names m
  abbrev pub IsNamed : NameMap (Cell T) → Name → Type 0
  IsNamed cells m = (n : Name) × (l : Location) × (map.get cells n ≡ Some (Ref m l))

  pub record IsLinked (cells : NameMap (Cell T)) : Type 0 where
    pub targets : HasTargets cells
    pub named : (m : Name) → is_shared (map.get cells m) ≡ true → IsNamed cells m

  -- a slot is made only if none is free
  pub record IsBounded (S : State T) : Type 0 where
    pub few : slots S ≤ S.peak + retired S
    -- the peak is no less than what is live now
    pub live : map.len S.cells ≤ S.peak
    -- slots are numbered from 0 in the order in which they were made
    pub dense : (s : ℕ) → map.contains_key (slots_of S) s ≡ true → s < slots S
    -- each live name is the last that its slot has had
    pub last : (n : Name) → IsLive S n → n ≡ last_name S n.slot

  -- an owner whose record is h is released, which leads from S to R
  pub record IsReleased (S : State T) (o : OwnerName) (h : Ownership) (R : State T) : Type 0 where
    pub held : ownership S o ≡ Some h
    pub done : Meets S (ReleaseOwner o) Done R

  -- The boxes of a list have ended, and then the Shared cells that no live Ref names any more. Every
  -- other cell is unchanged.
  pub record AreEnded (S : State T) (names : List Name) (R : State T) : Type 0 where
    pub boxes : (n : Name) → among names n ≡ true → map.get R.cells n ≡ None
    pub others : (n : Name) → among names n ≡ false → is_shared (map.get S.cells n) ≡ false
        → map.get R.cells n ≡ map.get S.cells n
    pub unnamed : (n : Name) → is_shared (map.get S.cells n) ≡ true → (IsNamed R.cells n → ⊥)
        → map.get R.cells n ≡ None
    pub named : (n : Name) → is_shared (map.get S.cells n) ≡ true → IsNamed R.cells n
        → map.get R.cells n ≡ map.get S.cells n

-- Boxes and their names.
use Rattle.std.specs.Prelude.{ℕ, Bool, List, nat_eq, ◌++◌}
use Rattle.std.specs.Hash as fed
use Rattle.std.specs.Ordering.{eq_of_both, on}
use Rattle.generational_errors.specs.declared.error.Location.{Location}
use Rattle.generational_core.specs.declared.boxes.GenerationalBoxId.{GenerationalBoxId}
use Rattle.generational_core.specs.declared.boxes.GenerationalPointer.{GenerationalPointer}
use Rattle.generational_core.specs.Names.{Name}

abbrev pub name_in : GenerationalBoxId → Name  -- the name in an id, and in a box
name_in id = record { slot = id.slot; generation = id.generation }

abbrev pub name_of : GenerationalPointer → Name
name_of b = name_in b.id

-- the id of a name in a store, and its box, made at a location
abbrev pub id_of : ℕ → Name → GenerationalBoxId
id_of number n = record { store = number; slot = n.slot; generation = n.generation }

abbrev pub box_of : ℕ → Name → Location → GenerationalPointer
box_of number n l = record { id = id_of number n; created_at = l }

-- what a box gives to a hash: its id
abbrev pub hashed_id : GenerationalPointer → List (List ℕ)
hashed_id b = fed.u64 b.id.store ++ (fed.usize b.id.slot ++ fed.u64 b.id.generation)

-- whether two ids are the same, by their three numbers
abbrev pub has_same_id : GenerationalPointer → GenerationalPointer → Bool
has_same_id =
    eq_of_both
    (on (λ b. b.id.store) nat_eq)
    (eq_of_both (on (λ b. b.id.slot) nat_eq) (on (λ b. b.id.generation) nat_eq))

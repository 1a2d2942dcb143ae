-- What holds of a table's store and of its rows.
use Rattle.std.specs.Prelude.{◌≡◌, ℕ, Bool, List, Option, Some, None, true, false, is_some, option_map}
use Rattle.std.specs.List.{AllByRecursion, IsDistinct}
use Rattle.std.specs.Map.{lookup}
use Rattle.generational_core.specs.Boxes.{name_of}
use Rattle.generational_core.specs.Machine.{OwnerName, ownership}
use Rattle.generational_core.specs.Machine.Action.{Make}
use Rattle.generational_core.specs.Machine.Answer.{Made}
use Rattle.generational_core.specs.Names.{Name, among, is_name}
use Rattle.generational_core.specs.Seeing.{value_in}
use Rattle.generational_core.specs.State.{State, IsGiven}
use Rattle.generational_core.specs.Steps.{Meets}
use Rattle.generational_core.specs.declared.boxes.GenerationalPointer.{GenerationalPointer}
use Rattle.generational_errors.specs.declared.error.Location.{Location}
use Rattle.generational_laws.specs.PlainStores.{IsSimple}
use Rattle.handles.specs.Handles.{id_in}
use Rattle.session_table.specs.declared.session.Session.{Session}
use Rattle.session_table.specs.Sessions.{Entry, entry_names, stores_of}

-- the names of a row's entries, with the numbers of their stores
pub record RowNames : Type 0 where
  pub names : List Name
  pub stores : List ℕ

abbrev pub held_of : {K T : Type 0} → Session K T → RowNames
held_of s = record { names = entry_names s.entries.entries; stores = stores_of s.entries.entries }

module _ {I K T : Type 0} where
  abbrev pub held_in : (I → I → Bool) → List (I × Session K T) → I → Option RowNames
  held_in eq rows id = option_map held_of (lookup (eq id) rows)

module _ {T : Type 0} where
  -- a box shows something
  abbrev pub ShowsSomething : State T → GenerationalPointer → Type 0
  ShowsSomething S b = is_some (value_in S b) ≡ true

  -- each entry of a list is of the store, and shows something
  pub record AreLive {K : Type 0} (S : State T) (entries : List (K × Entry T)) : Type 0 where
    pub own : AllByRecursion (λ n. n ≡ S.number) (stores_of entries)
    pub live : (b : GenerationalPointer) → among (entry_names entries) (name_of b) ≡ true → b.id.store ≡ S.number → ShowsSomething S b

  -- a cell was made with a value, and an entry refers to it
  abbrev pub HasPut : State T → T → Location → Entry T → State T → Type 0
  HasPut old v here e new = (b : GenerationalPointer) × Meets old (Make None v here) (Made b) new × (id_in e ≡ b.id)

  -- from one state to another the cells with these names were removed, and each other box is unchanged
  pub record HasLost (old : State T) (names : List Name) (new : State T) : Type 0 where
    pub simple : IsSimple new
    pub number : new.number ≡ old.number
    pub next : new.next ≡ old.next
    pub owners : (o : OwnerName) → ownership new o ≡ ownership old o
    pub given : (n : Name) → IsGiven old n → IsGiven new n
    pub ended : (b : GenerationalPointer) → among names (name_of b) ≡ true → value_in new b ≡ None
    pub others : (b : GenerationalPointer) → among names (name_of b) ≡ false → value_in new b ≡ value_in old b

module _ {I T : Type 0} where
  -- there is no borrow, no cell is a reference, and no owner is known; no two ids list one name; a box
  -- that shows a value is an entry of a row, and an entry of a row is of the store, is there once, and
  -- shows a value
  pub record AreSessionsKept (S : State T) (eq : I → I → Bool) (rows : I → Option RowNames) : Type 0 where
    pub simple : IsSimple S
    pub unowned : (o : OwnerName) → ownership S o ≡ None
    pub apart : (i j : I) (h g : RowNames) → rows i ≡ Some h → rows j ≡ Some g
        → (n : Name) → among h.names n ≡ true → among g.names n ≡ true → eq i j ≡ true
    pub once : (i : I) (h : RowNames) → rows i ≡ Some h → IsDistinct is_name h.names
    pub own : (i : I) (h : RowNames) → rows i ≡ Some h → AllByRecursion (λ n. n ≡ S.number) h.stores
    pub kept : (b : GenerationalPointer) → ShowsSomething S b
        → (i : I) × (h : RowNames) × (rows i ≡ Some h) × (among h.names (name_of b) ≡ true)
    pub live : (i : I) (h : RowNames) → rows i ≡ Some h → (b : GenerationalPointer)
        → among h.names (name_of b) ≡ true → b.id.store ≡ S.number → ShowsSomething S b

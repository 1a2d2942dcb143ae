-- Worked rows: calls of the machine one after another, with the answer of each of them.
use Rattle.std.specs.Prelude.{◌≡◌, ℕ, Bool, List, [], ◌∷◌, Option}
use Rattle.std.specs.FinMap as map
use Rattle.generational_errors.specs.declared.error.Location.{Location}
use Rattle.generational_core.specs.declared.boxes.GenerationalPointer.{GenerationalPointer}
use Rattle.generational_core.specs.Names.{Name}
use Rattle.generational_core.specs.Answers.{value_behind}
use Rattle.generational_core.specs.State.{State, IsSound}
use Rattle.generational_core.specs.Conditions.{fresh}
use Rattle.generational_core.specs.Boxes.{box_of}
use Rattle.generational_core.specs.Borrowing.{Guard}
use Rattle.generational_core.specs.Machine.{Action, Answer, NewNames, Outcome, OwnerName, act}
use Rattle.generational_core.specs.Slots.{slots, free, retired}
use Rattle.generational_core.specs.Steps.{Takes, limit_tickets, may_lack, no_names}

-- A line of a row: a call with the names that it takes, whether a call may fail to allocate, what a
-- reader's guard opens, or the counts.
pub data Line (T : Type 0) : Type 0 where
  Call : (action : Action T) (names : NewNames) → Line T
  Ask : (action : Action T) → Line T
  Open : (guard : Guard) → Line T
  Count : Line T

-- What a line says. The counts are of the slots ever made, the free and the retired ones, the live cells,
-- and their peak number.
pub data Told (T : Type 0) : Type 0 where
  Says : (answer : Answer T) → Told T
  Lacks : (may : Bool) → Told T
  Opens : (value : Option T) → Told T
  Counts : (slots free retired live peak : ℕ) → Told T

module _ {T : Type 0} where
  abbrev pub counted : State T → Told T
  counted S = Counts (slots S) (free S) (retired S) (map.len S.cells) S.peak

-- a line with what it says
abbrev pub Row : Type 0 → Type 0
Row T = List (Line T × Told T)

-- From a state, each line of a row says what is paired with it. Each name that a call issues is new and
-- fits, and the state is sound after each call.
unfoldable pub Tells : {T : Type 0} → State T → Row T → Type 0
Tells S [] = Unit {0}
Tells {T} S ((Call a f, told) ∷ row) =
    let out : Outcome T = limit_tickets S (act S a f) in
    (Says out.0 ≡ told) × Takes S a out.0 f × IsSound out.1 × Tells out.1 row
Tells S ((Ask a, told) ∷ row) = (Lacks (may_lack S a) ≡ told) × Tells S row
Tells S ((Open g, told) ∷ row) = (Opens (value_behind S g) ≡ told) × Tells S row
Tells S ((Count, told) ∷ row) = (counted S ≡ told) × Tells S row

-- a row does so, for any values and locations, from a fresh store with the number 7, this first
-- generation and this next ticket
abbrev pub TellsFrom : (T : Type 0)
    → (start next : ℕ) → ((u v w : T) (L M R W : Location) → Row T) → Type 0
TellsFrom T start next row =
    (u v w : T) (L M R W : Location) → Tells (fresh 7 start next) (row u v w L M R W)

-- ---- how rows are written

-- the name of a slot at a generation
infix 90 ◌#◌
abbrev pub ◌#◌ : ℕ → ℕ → Name
s # g = record { slot = s; generation = g }

-- boxes, owners and guards of the store with number 7
abbrev pub box : Name → Location → GenerationalPointer
box n l = box_of 7 n l

abbrev pub owner : ℕ → OwnerName
owner k = record { store = 7; key = k }

abbrev pub guard : Name → ℕ → Guard
guard n t = record { store = 7; cell = n; ticket = t }

-- a call with its answer, with one name that it takes, or with two; whether a call may fail to allocate;
-- a look; the counts
infix 70 ◌⇒◌
abbrev pub ◌⇒◌ : {T : Type 0} → Action T → Answer T → Line T × Told T
a ⇒ r = (Call a no_names, Says r)

infix 70 ◌takes◌⇒◌
abbrev pub ◌takes◌⇒◌ : {T : Type 0} → Action T → Name → Answer T → Line T × Told T
a takes n ⇒ r = (Call a (record { first = n; second = n }), Says r)

infix 70 ◌takes◌and◌⇒◌
abbrev pub ◌takes◌and◌⇒◌ : {T : Type 0} → Action T → Name → Name → Answer T → Line T × Told T
a takes m and n ⇒ r = (Call a (record { first = m; second = n }), Says r)

infix 70 ◌lacks◌
abbrev pub ◌lacks◌ : {T : Type 0} → Action T → Bool → Line T × Told T
a lacks may = (Ask a, Lacks may)

infix 70 ◌opens◌
abbrev pub ◌opens◌ : {T : Type 0} → Guard → Option T → Line T × Told T
g opens v = (Open g, Opens v)

abbrev pub count_is : {T : Type 0} → (slots free retired live peak : ℕ) → Line T × Told T
count_is s f r l p = (Count, Counts s f r l p)

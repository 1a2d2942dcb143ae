-- The state of a store, and when it is sound.
use Rattle.std.specs.Prelude.{◌≡◌, ℕ, ◌<◌, ◌+◌, ◌-◌, Bool, true, false, List, [], ◌∷◌, ◌++◌, Option}
use Rattle.std.specs.Prelude.{None, Some, is_some, nat_eq, map as list_map}
use Rattle.std.specs.Ordering.{nat_cmp}
use Rattle.std.specs.List.{list_any, IsDistinct, AllByRecursion}
use Rattle.std.specs.FinMap as map
use Rattle.std.specs.FinSet as set
use Rattle.generational_errors.specs.declared.error.Location.{Location}
use Rattle.generational_core.specs.Names.{Name, Names, NameMap}
use Rattle.generational_core.specs.Cells.{Content, Cell, content_of, refers_to, is_shared}
use Rattle.generational_core.specs.Cells.Content.{Here, Lent}
use Rattle.generational_core.specs.Cells.Cell.{Ref}

-- An owner's record: its boxes in order of insertion, and how many owner values are held.
pub record Ownership : Type 0 where
  pub names : List Name
  pub count : ℕ

abbrev pub one_more : Ownership → Ownership  -- an owner value more
one_more h = record h { count = h.count + 1 }

abbrev pub one_less : Ownership → Ownership  -- and one less
one_less h = record h { count = h.count - 1 }

-- another box at the end of the list
abbrev pub one_listed : Name → Ownership → Ownership
one_listed n h = record h { names = h.names ++ n ∷ [] }

abbrev pub Owners : Type 0  -- owners' records by their keys
Owners = map.FinMap nat_cmp Ownership

-- What a store represents. A name is live if it has a cell.
pub record State (T : Type 0) : Type 0 where
  pub number : ℕ  -- by which stores tell their boxes apart
  pub cells : NameMap (Cell T)
  pub given : Names  -- all names ever given
  pub owners : Owners
  pub next : ℕ  -- the next ticket, of a borrow or as an owner's key
  pub peak : ℕ  -- the most cells that were live at once
  pub start : ℕ  -- the first generation of a slot

module _ {T : Type 0} where
  abbrev pub content_at : State T → Name → Option (Content T)  -- the content at a name
  content_at S n = content_of (map.get S.cells n)

  abbrev pub tickets_of : Option (Content T) → List ℕ  -- of the borrows that stand there
  tickets_of (Some (Here v readers)) = list_map (λ r. r.ticket) readers
  tickets_of (Some (Lent w)) = w.ticket ∷ []
  tickets_of None = []

  abbrev pub tickets_at : NameMap (Cell T) → Name → List ℕ
  tickets_at cells n = tickets_of (content_of (map.get cells n))

  abbrev pub Stands : NameMap (Cell T) → Name → ℕ → Type 0  -- a borrow with ticket t stands at n
  Stands cells n t = list_any (nat_eq t) (tickets_at cells n) ≡ true

  unfoldable pub is_named : NameMap (Cell T) → Name → Bool  -- whether a live Ref names m
  is_named cells m = list_any (λ n. refers_to m (map.get cells n)) (map.keys cells)

  abbrev pub IsGiven : State T → Name → Type 0  -- the name was given
  IsGiven S n = set.contains S.given n ≡ true

  abbrev pub IsBoxed : State T → Name → Type 0  -- and isn't a Shared cell's
  IsBoxed S n = IsGiven S n × (is_shared (map.get S.cells n) ≡ false)

  -- each live Ref names a live Shared cell
  abbrev pub HasTargets : NameMap (Cell T) → Type 0
  HasTargets cells = (n m : Name) (l : Location) → map.get cells n ≡ Some (Ref m l)
      → is_shared (map.get cells m) ≡ true

  -- (Borrows are a part of a content, which is lent under a writer alone, in any state.)
  pub record IsSound (S : State T) : Type 0 where
    -- live names and owners' names were issued, and owners' names are names of boxes
    pub given : (n : Name) → is_some (map.get S.cells n) ≡ true → IsGiven S n
    pub owned : (k : ℕ) (h : Ownership) → map.get S.owners k ≡ Some h
        → AllByRecursion (IsBoxed S) h.names
    -- each live Ref names a live Shared cell, and each live Shared cell is named by a live Ref
    pub targets : HasTargets S.cells
    pub shared : (m : Name) → is_shared (map.get S.cells m) ≡ true → is_named S.cells m ≡ true
    -- tickets and owners' keys are below the next ticket, and no two borrows have the same ticket
    pub below : (n : Name) (t : ℕ) → Stands S.cells n t → t < S.next
    pub apart : (n : Name) → IsDistinct nat_eq (tickets_at S.cells n)
    pub one_cell : (n m : Name) (t : ℕ) → Stands S.cells n t → Stands S.cells m t → n ≡ m
    pub keys : (k : ℕ) → is_some (map.get S.owners k) ≡ true → k < S.next

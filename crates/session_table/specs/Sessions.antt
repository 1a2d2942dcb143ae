-- Sessions as a caller knows them.
use Rattle.std.specs.Prelude.{ℕ, Bool, not, nat_lt, List, [], ◌∷◌, ◌++◌, Option, None, Some, map, if◌then◌else◌}
use Rattle.std.specs.Map.{lookup, remove_entry}
use Rattle.indexmap.specs.IndexMap.{swap_remove_entry}
use Rattle.generational_core.specs.Boxes.{name_of}
use Rattle.generational_core.specs.Names.{Name}
use Rattle.handles.specs.Handles.{pointer_in}
use Rattle.handles.specs.declared.handle.Handle.{Handle}
use Rattle.session_table.specs.declared.entry.EntryKind.{EntryKind}

abbrev pub Entry : Type 0 → Type 0
Entry T = Handle T EntryKind

-- a session: the time of its last use, and its entries by their keys, in the order in which they were put
pub record LiveSession (K T : Type 0) : Type 0 where
  pub used_at : ℕ
  pub entries : List (K × Entry T)

module _ {K T : Type 0} where
  -- one that has just started
  abbrev pub begun : ℕ → LiveSession K T
  begun now = record { used_at = now; entries = [] }

  -- one that was used at a time, and one with another entry
  abbrev pub used : ℕ → LiveSession K T → LiveSession K T
  used now s = record s { used_at = now }

  abbrev pub with_entry : K → Entry T → LiveSession K T → LiveSession K T
  with_entry k e s = record s { entries = s.entries ++ (k, e) ∷ [] }

  -- entries without the first whose key passes a test: the others keep their order, or the last one takes
  -- its place
  abbrev pub left_of : Bool → (K → Bool) → List (K × Entry T) → List (K × Entry T)
  left_of in_order test entries = if in_order then remove_entry test entries else swap_remove_entry test entries

  abbrev pub left_entry : Bool → (K → Bool) → LiveSession K T → LiveSession K T
  left_entry in_order test s = record s { entries = left_of in_order test s.entries }

  -- a session without that entry, in each of the two ways
  abbrev pub without_entry : (K → Bool) → LiveSession K T → LiveSession K T
  without_entry test s = record s { entries = remove_entry test s.entries }

  abbrev pub swapped_entry : (K → Bool) → LiveSession K T → LiveSession K T
  swapped_entry test s = record s { entries = swap_remove_entry test s.entries }

  -- whether one was used at a time or after it; the session, if it was
  abbrev pub is_young : ℕ → LiveSession K T → Bool
  is_young time s = not (nat_lt s.used_at time)

  abbrev pub if_young : ℕ → Option (LiveSession K T) → Option (LiveSession K T)
  if_young time None = None
  if_young time (Some s) = if is_young time s then Some s else None

  -- the names of entries, and the numbers of their stores
  abbrev pub entry_names : List (K × Entry T) → List Name
  entry_names entries = map (λ e. name_of (pointer_in e.1)) entries

  abbrev pub stores_of : List (K × Entry T) → List ℕ
  stores_of entries = map (λ e. (pointer_in e.1).id.store) entries

  abbrev pub entry_names_in : Option (LiveSession K T) → List Name
  entry_names_in None = []
  entry_names_in (Some s) = entry_names s.entries

  -- the entry under a key: the first whose key passes a test, and the one under what `==` says of keys
  abbrev pub find_entry : (K → Bool) → Option (LiveSession K T) → Option (Entry T)
  find_entry test None = None
  find_entry test (Some s) = lookup test s.entries

  abbrev pub entry_in : (K → K → Bool) → Option (LiveSession K T) → K → Option (Entry T)
  entry_in eq s k = find_entry (eq k) s

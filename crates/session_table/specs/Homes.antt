-- Where entries are among rows.
use Rattle.std.specs.Prelude.{◌≡◌, ℕ, List, Some, slice_get}
use Rattle.handles.specs.Handles.{IsSame}
use Rattle.session_table.specs.declared.session.Session.{Session}
use Rattle.session_table.specs.Sessions.{Entry}

module _ {I K T : Type 0} (rows : List (I × Session K T)) where
  -- an entry is at an index of a row's session, and at some index
  abbrev pub IsEntryAt : ℕ → ℕ → Entry T → Type 0
  IsEntryAt row index e = (x : I × Session K T) × (p : K × Entry T) × (slice_get rows row ≡ Some x)
      × (slice_get x.1.entries.entries index ≡ Some p) × IsSame p.1 e

  abbrev pub IsInRow : ℕ → Entry T → Type 0
  IsInRow row e = (index : ℕ) × IsEntryAt row index e

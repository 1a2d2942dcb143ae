-- Bounds of blocks of 64 rows.
use Rattle.std.specs.Prelude.{◌≡◌, ◌≢◌, ◌≤◌, ◌/◌, ℕ, List, Some, slice_get, unwrap_or}
use Rattle.session_table.specs.declared.session.Session.{Session}

-- the bound of a row's block, or 0
abbrev pub bound_at : List ℕ → ℕ → ℕ
bound_at bounds row = unwrap_or (slice_get bounds (row / 64)) 0

module _ {I K T : Type 0} where
  -- no session was last used before its block's bound; and none except perhaps that of one row
  pub record AreLowerBounds (bounds : List ℕ) (rows : List (I × Session K T)) : Type 0 where
    pub low : (row : ℕ) (e : I × Session K T) → slice_get rows row ≡ Some e → bound_at bounds row ≤ e.1.used_at

  pub record AreLowerBoundsBut (but : ℕ) (bounds : List ℕ) (rows : List (I × Session K T)) : Type 0 where
    pub low : (row : ℕ) (e : I × Session K T) → row ≢ but → slice_get rows row ≡ Some e → bound_at bounds row ≤ e.1.used_at

-- Which slots are clean, and which blocks of slots are flagged.
use Rattle.std.specs.Prelude.{◌≡◌, ◌≢◌, ◌≤◌, ◌<◌, ◌+◌, ◌*◌, ℕ, Bool, true, false, List, get_or}
use Rattle.std.specs.Vec.{vec_items}
use Rattle.dirty_slots.specs.declared.slots.DirtySlots.{DirtySlots}

-- a slot is clean; one past the end isn't
abbrev pub clean_at : List Bool → ℕ → Bool
clean_at clean s = get_or clean s false

-- a block is flagged, and so is one past the end
abbrev pub flag_at : List Bool → ℕ → Bool
flag_at blocks b = get_or blocks b true

-- a slot is one of a block's 64
abbrev pub IsIn : ℕ → ℕ → Type 0
IsIn s b = (64 * b ≤ s) × (s < 64 * b + 64)

-- From one state to another no slot became clean, and the block of each that became dirty is flagged.
pub record AreDoubted (old new : DirtySlots) : Type 0 where
  pub fewer : (s : ℕ) → clean_at (vec_items new.clean) s ≡ true → clean_at (vec_items old.clean) s ≡ true
  pub flagged : (s b : ℕ) → clean_at (vec_items old.clean) s ≡ true → clean_at (vec_items new.clean) s ≡ false
      → IsIn s b → flag_at (vec_items new.blocks) b ≡ true
  pub kept : (b : ℕ) → flag_at (vec_items old.blocks) b ≡ true → flag_at (vec_items new.blocks) b ≡ true

-- From one state to another a slot is dirty, and its block is flagged.
pub record HasFlagged (old : DirtySlots) (slot : ℕ) (new : DirtySlots) : Type 0 where
  pub here : clean_at (vec_items new.clean) slot ≡ false
  pub others : (s : ℕ) → s ≢ slot → clean_at (vec_items new.clean) s ≡ clean_at (vec_items old.clean) s
  pub flagged : (b : ℕ) → IsIn slot b → flag_at (vec_items new.blocks) b ≡ true
  pub kept : (b : ℕ) → flag_at (vec_items old.blocks) b ≡ true → flag_at (vec_items new.blocks) b ≡ true

-- from one state to another the same slots are clean, and the same blocks flagged
pub record AreSameSlots (old new : DirtySlots) : Type 0 where
  pub clean : (s : ℕ) → clean_at (vec_items new.clean) s ≡ clean_at (vec_items old.clean) s
  pub flags : (b : ℕ) → flag_at (vec_items new.blocks) b ≡ flag_at (vec_items old.blocks) b

-- Effects by the slots of their nodes: a slot is clean if the last report of its node is right.
use Rattle.std.specs.Prelude.{◌≡◌, ℕ, true, false, List, Option, None, Some, Ok, get_or}
use Rattle.std.specs.Vec.{vec_items}
use Rattle.dirty_slots.specs.Blocks.{AreDoubted, IsIn, clean_at, flag_at}
use Rattle.dirty_slots.specs.declared.slots.DirtySlots.{DirtySlots}
use Rattle.reactive.specs.declared.effects.Effect.{Effect}
use Rattle.reactive.specs.declared.key.Key.{Key}
use Rattle.reactive.specs.Tables.{Book, Shows}

-- From one book to another the slots whose nodes may mean something else are doubted.
pub record AreDirtied {T R : Type 0} (old : Book T R) (before : DirtySlots) (new : Book T R) (after : DirtySlots) : Type 0 where
  pub doubted : AreDoubted before after
  pub same : (s : ℕ) → clean_at (vec_items after.clean) s ≡ true → (new.known s ≡ old.known s)
      × ((k : Key) → k.id.slot ≡ s → new.nodes k ≡ old.nodes k)

-- the effect of a slot's node
abbrev pub effect_at : {T : Type 0} → List (Option (Effect T)) → ℕ → Option (Effect T)
effect_at effects s = get_or effects s None

-- Each effect has the slot of its node. If that is clean, the value that was reported is what the node is known
-- to mean; otherwise its block is flagged.
pub record AreHeard {T R : Type 0} (b : Book T R) (effects : List (Option (Effect T))) (dirty : DirtySlots) : Type 0 where
  pub placed : (s : ℕ) (e : Effect T) → effect_at effects s ≡ Some e → e.key.id.slot ≡ s
  pub heard : (s : ℕ) (e : Effect T) → effect_at effects s ≡ Some e → clean_at (vec_items dirty.clean) s ≡ true
      → (v : T) × (e.told ≡ Some (Ok v)) × Shows b e.key v
  pub flagged : (s c : ℕ) (e : Effect T) → effect_at effects s ≡ Some e → clean_at (vec_items dirty.clean) s ≡ false → IsIn s c
      → flag_at (vec_items dirty.blocks) c ≡ true

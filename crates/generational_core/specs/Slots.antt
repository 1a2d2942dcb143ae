-- Slots: how many there are, which are free, and which names fit.
use Rattle.std.specs.Prelude.{◌≡◌, ℕ, ◌+◌, ◌-◌, ◌^◌, Bool, true, not, ◌&&◌, nat_lt, max, List, []}
use Rattle.std.specs.Prelude.{◌∷◌, unwrap_or, is_some, ◌⊎◌}
use Rattle.std.specs.Ordering.{nat_cmp}
use Rattle.std.specs.FinMap as map
use Rattle.std.specs.FinSet as set
use Rattle.generational_core.specs.Names.{Name}
use Rattle.generational_core.specs.State.{State}

unfoldable pub lasts : List Name → map.FinMap nat_cmp ℕ  -- each slot's greatest generation
lasts [] = map.empty
lasts (n ∷ names) =
    let rest = lasts names in
    map.insert rest n.slot (max n.generation (unwrap_or (map.get rest n.slot) 0))

abbrev pub last_generation : ℕ  -- the last generation of all
last_generation = 2 ^ 64 - 1

module _ {T : Type 0} where
  abbrev pub slots_of : State T → map.FinMap nat_cmp ℕ  -- each slot's last generation
  slots_of S = lasts (set.items S.given)

  abbrev pub last_name : State T → ℕ → Name
  last_name S s = record { slot = s; generation = unwrap_or (map.get (slots_of S) s) 0 }

  abbrev pub is_last_live : State T → ℕ → Bool
  is_last_live S s = is_some (map.get S.cells (last_name S s))

  -- a slot whose last name isn't live is free, or retired if that name had the last generation
  abbrev pub is_free : State T → ℕ → Bool
  is_free S s = not (is_last_live S s) && nat_lt (last_name S s).generation last_generation

  abbrev pub is_retired : State T → ℕ → Bool
  is_retired S s = not (is_last_live S s) && not (nat_lt (last_name S s).generation last_generation)

  abbrev pub slots : State T → ℕ  -- how many slots were ever made
  slots S = map.len (slots_of S)

  abbrev pub free : State T → ℕ  -- how many of them are free
  free S = map.len (map.retain_keys (slots_of S) (is_free S))

  abbrev pub retired : State T → ℕ  -- and how many are retired
  retired S = map.len (map.retain_keys (slots_of S) (is_retired S))

  -- a name fits: a new slot at its first generation if none is free, else a free slot's next one
  abbrev pub Fits : State T → Name → Type 0
  Fits S n =
      ((free S ≡ 0) × (n.slot ≡ slots S) × (n.generation ≡ S.start))
      ⊎ (
      (map.contains_key (slots_of S) n.slot ≡ true)
      × (is_free S n.slot ≡ true)
      × (n.generation ≡ (last_name S n.slot).generation + 1)
      )

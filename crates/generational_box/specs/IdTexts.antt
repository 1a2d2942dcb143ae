-- Texts of ids.
use Rattle.std.specs.Prelude.{◌≡◌, ◌<◌, ◌^◌, ℕ, List}
use Rattle.generational_core.specs.Texts.{id_text}
use Rattle.generational_core.specs.declared.boxes.GenerationalBoxId.{GenerationalBoxId}

-- an id of the store with this number, of 64-bit numbers, prints as this text
pub record IsIdText (number : ℕ) (bytes : List ℕ) (id : GenerationalBoxId) : Type 0 where
  pub store : id.store ≡ number
  pub slot : id.slot < 2 ^ 64
  pub generation : id.generation < 2 ^ 64
  pub text : bytes ≡ id_text id

-- What a flush does with one slot.
use Rattle.std.specs.Prelude.{◌≡◌, ℕ, Bool, List, slice_set}
use Rattle.reactive.specs.declared.effects.Told.{Told}
use Rattle.reactive.specs.Graphs.{GraphState, kind_in, plans_in}
use Rattle.reactive.specs.Hearing.{Listens}
use Rattle.reactive.specs.Watching.{effect_at}
use Rattle.reactive.specs.Plans.{Plan}

-- from one graph to another a slot's effect was brought up to date, and no other has changed
pub record HasListened {T R : Type 0} (same : T → T → Bool) (plan : R → Plan T) (old : GraphState T R) (s : ℕ)
    (new : GraphState T R) (told : List (Told T)) : Type 0 where
  pub effects : new.effects ≡ slice_set old.effects s (effect_at new.effects s)
  pub listens : Listens same (plans_in plan old) (kind_in old) (effect_at old.effects s) (effect_at new.effects s) told

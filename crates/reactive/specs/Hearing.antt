-- Effects: nodes that are watched, each with what was last reported of it.
use Rattle.std.specs.Prelude.{⊤, ◌≡◌, ◌≢◌, ℕ, suc, zero, Bool, true, false, List, [], ◌∷◌, ◌++◌, Option, None, Some, Result, Ok, Err}
use Rattle.reactive.specs.declared.effects.Effect.{Effect}
use Rattle.reactive.specs.declared.effects.Told.{Told}
use Rattle.reactive.specs.declared.fault.Fault.{Fault}
use Rattle.reactive.specs.declared.fault.Fault.TheVariants as fault
use Rattle.reactive.specs.declared.key.Key.{Key}
use Rattle.reactive.specs.Graphs.{Kind}
use Rattle.reactive.specs.Graphs.Kind.{NoNode}
use Rattle.reactive.specs.Meaning.{Graph, Means, IsMute}
use Rattle.reactive.specs.Refreshing.{Blames}

-- a fault isn't a lack of memory or numbers
abbrev pub IsNoShortage : Fault → Type 0
IsNoShortage (fault.Gone j) = ⊤
IsNoShortage (fault.Cycle j) = ⊤
IsNoShortage (fault.NoValue j) = ⊤
IsNoShortage (fault.NoSource j) = ⊤
IsNoShortage (fault.Store e) = ⊥

module _ {T : Type 0} where
  -- a fault is true of a node, and isn't one of memory or numbers
  abbrev pub IsTrueOf : Graph T → (Key → Kind) → Key → Fault → Type 0
  IsTrueOf G kind k (fault.Gone j) = Blames G kind k (fault.Gone j)
  IsTrueOf G kind k (fault.Cycle j) = Blames G kind k (fault.Cycle j)
  IsTrueOf G kind k (fault.NoValue j) = Blames G kind k (fault.NoValue j)
  IsTrueOf G kind k (fault.NoSource j) = ⊥
  IsTrueOf G kind k (fault.Store e) = ⊥

  -- a report says what a node means: this value, or nothing, by this fault
  abbrev pub Says : Graph T → (Key → Kind) → Key → Result T Fault → Type 0
  Says G kind k (Ok v) = Means G k v
  Says G kind k (Err f) = IsTrueOf G kind k f

  -- the last report is right of a node: it means this value, or nothing
  abbrev pub IsRight : Graph T → Key → Option (Result T Fault) → Type 0
  IsRight G k None = ⊥
  IsRight G k (Some (Ok v)) = Means G k v
  IsRight G k (Some (Err f)) = IsMute G k

  -- the last report says the same: this value, or that there is none
  abbrev pub WasTold : Option (Result T Fault) → Result T Fault → Type 0
  WasTold told (Ok v) = told ≡ Some (Ok v)
  WasTold told (Err f) = (g : Fault) × (told ≡ Some (Err g))

  -- the node of an effect, and its number
  abbrev pub effect_named : Option (Effect T) → Option (Key × ℕ)
  effect_named None = None
  effect_named (Some e) = Some (e.key, e.tag)

  -- its node alone
  abbrev pub named_key : Option (Effect T) → Option Key
  named_key None = None
  named_key (Some e) = Some e.key

  -- a report of an effect
  abbrev pub telling : Effect T → Result T Fault → Told T
  telling e a = record { key = e.key; tag = e.tag; answer = a }

module _ {T : Type 0} (same : T → T → Bool) where
  -- whether a result needn't be reported again, by the last report
  abbrev pub is_old : Option (Result T Fault) → Result T Fault → Bool
  is_old None a = false
  is_old (Some (Ok v)) (Ok w) = same v w
  is_old (Some (Ok v)) (Err g) = false
  is_old (Some (Err f)) (Ok w) = false
  is_old (Some (Err f)) (Err g) = true

  -- An effect gets a result. It is reported, and recorded, if it is new; otherwise the effect is
  -- unchanged, and this was reported.
  abbrev pub Hears : Effect T → Result T Fault → Effect T → List (Told T) → Type 0
  Hears e a f [] = (f ≡ e) × WasTold e.told a
  Hears e a f (t ∷ []) = (is_old e.told a ≡ false)
      × (f ≡ record { key = e.key; tag = e.tag; told = Some a }) × (t ≡ telling e a)
  Hears e a f (t ∷ u ∷ rest) = ⊥

  -- A slot's effect gets what its node means. If that was removed, this is reported, and the effect removed.
  abbrev pub Listens : Graph T → (Key → Kind) → Option (Effect T) → Option (Effect T) → List (Told T) → Type 0
  Listens G kind None f told = (f ≡ None) × (told ≡ [])
  Listens G kind (Some e) (Some f) told = (kind e.key ≢ NoNode) × ((a : Result T Fault) × Says G kind e.key a × Hears e a f told)
  Listens G kind (Some e) None told = (kind e.key ≡ NoNode) × (told ≡ telling e (Err (fault.Gone e.key)) ∷ [])

  -- The effects of the first so many slots got what their nodes mean, in order. The others are unchanged.
  abbrev pub AllHear : Graph T → (Key → Kind) → ℕ → List (Option (Effect T)) → List (Option (Effect T)) → List (Told T) → Type 0
  AllHear G kind zero old new told = (new ≡ old) × (told ≡ [])
  AllHear G kind (suc n) [] new told = ⊥
  AllHear G kind (suc n) (e ∷ old) [] told = ⊥
  AllHear G kind (suc n) (e ∷ old) (f ∷ new) told = (one : List (Told T)) × (rest : List (Told T)) × (told ≡ one ++ rest)
      × Listens G kind e f one × AllHear G kind n old new rest

-- What the result of a read of a node says of its meaning.
use Rattle.std.specs.Prelude.{◌≡◌, ◌⊎◌, ℕ, List, Option, None, Some, Result, Ok, Err}
use Rattle.generational_errors.specs.declared.error.StoreError.{StoreError}
use Rattle.generational_errors.specs.declared.error.StoreError.TheVariants.{NumbersExhausted, OutOfMemory}
use Rattle.reactive.specs.declared.fault.Fault.{Fault}
use Rattle.reactive.specs.declared.fault.Fault.TheVariants as fault
use Rattle.reactive.specs.declared.key.Key.{Key}
use Rattle.reactive.specs.Graphs.{Kind, kinds_of}
use Rattle.reactive.specs.Graphs.Kind.{NoNode}
use Rattle.reactive.specs.Meaning.{GivesNone, Graph, IsMute, Means, NeedsItself, Reaches}
use Rattle.reactive.specs.declared.look.Frame.{Frame}
use Rattle.reactive.specs.declared.look.Step.{Step}
use Rattle.reactive.specs.Chains.{AllGoOn, Chain, GoesOn}
use Rattle.reactive.specs.Looks.{Stepped}
use Rattle.reactive.specs.Plans.{Plan}
use Rattle.reactive.specs.Settling.{LeavesBook}
use Rattle.reactive.specs.Tables.{Book, IsSound, Shows}

-- memory ran out, or numbers did
abbrev pub HasRunOut : StoreError → Type 0
HasRunOut e = (e ≡ OutOfMemory) ⊎ (e ≡ NumbersExhausted)

module _ {T : Type 0} (G : Graph T) (kind : Key → Kind) (k : Key) where
  -- That a node was removed, needs itself, or yields no value is true of it, and says that the node that
  -- was read depends on it and means nothing. That memory or numbers ran out says nothing of it.
  abbrev pub Blames : Fault → Type 0
  Blames (fault.Gone j) = IsMute G k × Reaches G k j × (kind j ≡ NoNode)
  Blames (fault.Cycle j) = IsMute G k × Reaches G k j × NeedsItself G j
  Blames (fault.NoValue j) = IsMute G k × Reaches G k j × GivesNone G j
  Blames (fault.NoSource j) = ⊥
  Blames (fault.Store e) = HasRunOut e

  -- a value is what the node means
  abbrev pub Answers : Result T Fault → Type 0
  Answers (Ok v) = Means G k v
  Answers (Err f) = Blames f

module _ {T R : Type 0} (G : Graph T) (b : Book T R) (k : Key) where
  -- a node that was brought up to date is known
  abbrev pub Refreshed : {U : Type 0} → Result U Fault → Type 0
  Refreshed (Ok u) = (v : T) × Shows b k v
  Refreshed (Err f) = Blames G (kinds_of b.nodes) k f

module _ {T R : Type 0} (plan : R → Plan T) (G : Graph T) (now : ℕ) where
  -- from one book to another a look at a node was taken, and kept
  pub record IsAdvanced (old : Book T R) (k : Key) (step : Step) (new : Book T R) : Type 0 where
    pub sound : IsSound plan G now new
    pub leaves : LeavesBook G now old new
    pub stepped : Stepped G now new k step

  -- on the way from one node, by these, to another: each needs the next, and looks at them go on
  pub record IsOnTheWay (b : Book T R) (start : Key) (path : List Frame) (top : Frame) : Type 0 where
    pub sound : IsSound plan G now b
    pub chain : Chain G start path top.key
    pub others : AllGoOn G now b path
    pub last : GoesOn G now b top.key top.place

  -- the path goes on, or has come to its end, or to a fault
  abbrev pub Went : Book T R → Key → List Frame → Result (Option Frame) Fault → Type 0
  Went b start path (Ok (Some top)) = IsOnTheWay b start path top
  Went b start path (Ok None) = IsSound plan G now b × ((v : T) × Shows b start v)
  Went b start path (Err f) = IsSound plan G now b

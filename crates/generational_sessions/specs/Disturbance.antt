-- When nothing disturbs a value in a session: in one of its calls, and in a run.
use Rattle.std.specs.Prelude.{List, [], ◌∷◌}
use Rattle.generational_core.specs.declared.boxes.GenerationalPointer.{GenerationalPointer}
use Rattle.generational_core.specs.Names.{Name}
use Rattle.generational_core.specs.State.{State}
use Rattle.generational_core.specs.Keeping.{Sets, IsUnwritten}
use Rattle.generational_sessions.specs.declared.calls.Call.{Call}
use Rattle.generational_sessions.specs.Session.{SessionState, SessionReply, Request, Run, ask}
use Rattle.generational_sessions.specs.Session.Request.{Asks}

module _ {T : Type 0} where
  -- what a call comes to sets the value at a name
  abbrev pub AskedSets : State T → Request T → Name → Type 0
  AskedSets S (Asks action) m = Sets S action m
  AskedSets S _ m = ⊥

  -- a call of a session sets the value at a name
  abbrev pub CallSets : SessionState T → Call T → Name → Type 0
  CallSets s c m = AskedSets s.state (ask s c) m

  -- nothing disturbs the value that a box reaches at m in a call of a session
  pub record IsUndisturbed (b : GenerationalPointer) (m : Name)
      (s : SessionState T) (c : Call T) (r : SessionState T) : Type 0 where
    pub before : IsUnwritten b m s.state
    pub after : IsUnwritten b m r.state
    pub unset : CallSets s c m → ⊥

  -- Nothing disturbs it in a run, from its first state to its last: the box reaches m in each, no
  -- writer has the value in any, and no call sets it.
  abbrev pub Undisturbed : (b : GenerationalPointer) (m : Name)
      (s : SessionState T) (calls : List (Call T)) (replies : List (SessionReply T))
      (r : SessionState T)
      → Run s calls replies r → Type 0
  Undisturbed b m s [] [] r run = IsUnwritten b m s.state
  Undisturbed b m s (c ∷ calls) (x ∷ replies) r run =
      IsUnwritten b m s.state
      × (CallSets s c m → ⊥)
      × Undisturbed b m run.0 calls replies r run.2
  Undisturbed b m s _ _ r run = ⊥

-- Shared states that begin from an image, and images of shared states.
use Rattle.std.specs.Prelude.{◌≡◌, ℕ, List, []}
use Rattle.generational_core.specs.Rows.{rows_of}
use Rattle.generational_laws.specs.History.{plain}
use Rattle.store_images.specs.Images.{IsLoadError, told}
use Rattle.store_images.specs.Saving.{IsStateCopy}
use Rattle.store_images.specs.declared.image.Image.{Image}
use Rattle.store_images.specs.declared.image.LoadError.TheVariants as load
use Rattle.shared_history.specs.Bases.{BaseState, plain_of}
use Rattle.shared_records.specs.declared.step.Step.{Step}
use Rattle.shared_state.specs.declared.begin.BeginError.{BeginError}
use Rattle.shared_state.specs.declared.begin.BeginError.TheVariants as why
use Rattle.shared_state.specs.declared.begin.Unbegun.{Unbegun}
use Rattle.shared_state.specs.declared.begin.Unbegun.TheVariants as unbegun
use Rattle.shared_state.specs.Relocating.{HistoryLeadsTo}
use Rattle.shared_state.specs.Shared.{Replays, SharedState}

module _ {T : Type 0} where
  -- A shared state that has begun from an image: the state is the one that the image tells, the history
  -- is empty, and the base tells this state without its values, in its rows.
  pub record HasBegunFrom (i : Image T) (s : SharedState T) : Type 0 where
    pub state : s.state ≡ told i
    pub history : s.history ≡ []
    pub base : plain_of s.base ≡ plain (told i)
    pub rows : s.base.rows ≡ rows_of (told i)

  -- why a store with this number doesn't begin from an image
  abbrev pub IsBeginError : ℕ → Image T → BeginError → Type 0
  IsBeginError number i why.OtherNumber = ¬ (i.number ≡ number)
  IsBeginError number i why.OtherStart = ¬ (i.start ≡ 1)
  IsBeginError number i (why.Load e) = IsLoadError i e

  -- what is returned then: the image, or the store that was made of it, if memory ran out later
  abbrev pub IsUnbegun : Image T → Unbegun T → BeginError → Type 0
  IsUnbegun i (unbegun.Image j) e = j ≡ i
  IsUnbegun i (unbegun.Store s) e = (s.state ≡ told i) × (e ≡ why.Load load.OutOfMemory)

  -- an image from which a store with this number may begin
  abbrev pub IsOwnImage : ℕ → Image T → Type 0
  IsOwnImage number i = (i.number ≡ number) × (i.start ≡ 1)

  -- A history leads from a base to the state that an image tells, without its values.
  abbrev pub LeadsToImage : BaseState → List Step → Image T → Type 0
  LeadsToImage base steps i = HistoryLeadsTo (plain_of base) steps (plain (told i))

-- An image of a store that isn't seen: a copy of some state of it, to which its history leads.
pub record IsUnseenImage {T : Type 0} (Copies : T → T → Type 0) (number : ℕ) (i : Image T) : Type 0 where
  pub old : SharedState T
  pub replays : Replays number old
  pub copy : IsStateCopy Copies old.state (told i)

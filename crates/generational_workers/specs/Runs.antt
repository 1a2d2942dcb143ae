-- The result of a run: what its workers did, and what they counted.
use Rattle.std.specs.Prelude.{ℕ, List, [], ◌∷◌, fold}
use Rattle.shared_records.specs.declared.step.Step.{Step}
use Rattle.shared_history.specs.Bases.{BaseState, IsTallied}
use Rattle.shared_history.specs.Counts.{Counts, merged, new_tallies, new_tally}

-- what a tally counts once all of these are merged in it
abbrev pub all_merged : Counts → List Counts → Counts
all_merged whole tallies = fold merged whole tallies

module _ {Answer : Type 0} (serves : Counts → Answer → Counts → Type 0) where
  -- workers with these tallies have served, one after the other in these lists: each has returned its
  -- result, and has these counts then
  abbrev pub HaveServed : List Counts → List Answer → List Counts → Type 0
  HaveServed [] [] [] = Unit {0}
  HaveServed (old ∷ before) (answer ∷ answers) (new ∷ after) =
      serves old answer new × HaveServed before answers after
  HaveServed before answers after = ⊥

-- The result of a service with so many workers: what it and they returned, and the history of the store.
pub record IsRun {Shared Answer End : Type 0} (begins : Counts → Shared → Counts → Type 0)
    (serves : Shared → Counts → Answer → Counts → Type 0)
    (ends : Shared → Counts → End → Counts → Type 0) (workers : ℕ) (end : End)
    (answers : List Answer) (base : BaseState) (steps : List Step) : Type 0 where
  -- it began with a new tally, after those of the workers
  pub shared : Shared
  pub begun : Counts
  pub start : begins (new_tally workers) shared begun
  -- then each worker served with a new tally of its own
  pub tallies : List Counts
  pub served : HaveServed (serves shared) (new_tallies workers) answers tallies
  -- then it ended
  pub ended : Counts
  pub last : ends shared begun end ended
  -- and the history has of each kind as many steps as they all have counted
  pub counted : IsTallied (all_merged ended tallies) base steps

-- The base of a history: the state from which it goes on, in rows, and what was counted before it.
use Rattle.std.specs.Prelude.{◌≡◌, ℕ, ◌+◌, List, []}
use Rattle.generational_core.specs.declared.rows.BaseRow.{BaseRow}
use Rattle.generational_core.specs.Plain.{Plain}
use Rattle.generational_core.specs.Rows.{told_by}
use Rattle.shared_history.specs.Counts.{Counts, counted_of}
use Rattle.shared_history.specs.declared.base.TrimmedSteps.{TrimmedSteps}
use Rattle.shared_records.specs.Kinds.{count_of_kind}
use Rattle.shared_records.specs.declared.step.Kind.{Kind}
use Rattle.shared_records.specs.declared.step.Kind.TheVariants.{Made, Lent, Changed, Refused}
use Rattle.shared_records.specs.declared.step.Step.{Step}

-- A base: a store's number, next ticket, peak and rows, and how many steps of each kind were
-- trimmed.
pub record BaseState : Type 0 where
  pub number : ℕ
  pub next : ℕ
  pub peak : ℕ
  pub made : ℕ
  pub lent : ℕ
  pub changed : ℕ
  pub refused : ℕ
  pub rows : List BaseRow

-- the state that it describes
abbrev pub plain_of : BaseState → Plain
plain_of base = told_by base.number base.next base.peak base.rows

-- how many steps of a kind were trimmed, and how many of all kinds
abbrev pub trimmed_of : Kind → BaseState → ℕ
trimmed_of Made base = base.made
trimmed_of Lent base = base.lent
trimmed_of Changed base = base.changed
trimmed_of Refused base = base.refused

abbrev pub all_trimmed : BaseState → ℕ
all_trimmed base = base.made + base.lent + base.changed + base.refused

-- the base of a new store: nothing was made, and no step was trimmed
abbrev pub new_base : ℕ → BaseState
new_base number = record {
  number = number;
  next = 0;
  peak = 0;
  made = 0;
  lent = 0;
  changed = 0;
  refused = 0;
  rows = [];
}

-- a tally counts the trimmed steps and these: for each kind as many as there are
abbrev pub IsTallied : Counts → BaseState → List Step → Type 0
IsTallied c base steps = (kind : Kind) → trimmed_of kind base + count_of_kind kind steps ≡ counted_of kind c

-- a base counts all of these steps as trimmed, in addition to those of the previous base
abbrev pub Trims : BaseState → List Step → BaseState → Type 0
Trims before steps after =
    (kind : Kind) → trimmed_of kind after ≡ trimmed_of kind before + count_of_kind kind steps

-- how many steps of each kind are trimmed after these
abbrev pub counts_of : BaseState → List Step → TrimmedSteps
counts_of base steps = record {
  made = base.made + count_of_kind Made steps;
  lent = base.lent + count_of_kind Lent steps;
  changed = base.changed + count_of_kind Changed steps;
  refused = base.refused + count_of_kind Refused steps;
}

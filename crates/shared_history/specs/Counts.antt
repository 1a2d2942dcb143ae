-- What a tally counts.
use Rattle.std.specs.Prelude.{ℕ, zero, suc, ◌+◌, List, [], ◌∷◌, ◌++◌}
use Rattle.shared_records.specs.declared.step.Kind.{Kind}
use Rattle.shared_records.specs.declared.step.Kind.TheVariants.{Made, Lent, Changed, Refused}

-- A tally: its worker, how many of the store's tallies are merged in it, and how many steps of each
-- kind were taken with them.
pub record Counts : Type 0 where
  pub worker : ℕ
  pub parts : ℕ
  pub made : ℕ
  pub lent : ℕ
  pub changed : ℕ
  pub refused : ℕ

-- another step of this kind
abbrev pub raised : Kind → Counts → Counts
raised Made c = record c { made = c.made + 1 }
raised Lent c = record c { lent = c.lent + 1 }
raised Changed c = record c { changed = c.changed + 1 }
raised Refused c = record c { refused = c.refused + 1 }

-- how many steps of this kind it counts
abbrev pub counted_of : Kind → Counts → ℕ
counted_of Made c = c.made
counted_of Lent c = c.lent
counted_of Changed c = c.changed
counted_of Refused c = c.refused

-- both together, with the first one's worker
abbrev pub merged : Counts → Counts → Counts
merged c d = record {
  worker = c.worker;
  parts = c.parts + d.parts;
  made = c.made + d.made;
  lent = c.lent + d.lent;
  changed = c.changed + d.changed;
  refused = c.refused + d.refused;
}

-- a worker's tally at the start
abbrev pub new_tally : ℕ → Counts
new_tally worker =
    record { worker = worker; parts = 1; made = 0; lent = 0; changed = 0; refused = 0 }

-- the tallies of so many workers at the start, numbered from 0
abbrev pub new_tallies : ℕ → List Counts
new_tallies zero = []
new_tallies (suc n) = new_tallies n ++ new_tally n ∷ []

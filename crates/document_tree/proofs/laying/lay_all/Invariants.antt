use Rattle.std.proofs.Common.{◌≡◌, ◌≤◌, ◌<◌, ℕ, None, length, slice_index_or, vec_capacity}
use Rattle.handles.specs.Sites.{told_in}
use Rattle.slab.specs.Slab.{get}
use Rattle.document_tree.specs.Taking.{IsLaid}
use Rattle.document_tree.proofs.laying.lay_all.Given as goal

-- the parts so far are in the list, and the others where they were
abbrev pub invariant-loop-key : goal.invariant-loop-key
invariant-loop-key g l = record {
  laid : (k : ℕ) → k < l.key → IsLaid {T = g.row.T.Denot} (told_in l.sites) (get l.fn.parts k)
      (slice_index_or l.rows.items k None);
  rest : (k : ℕ) → l.key ≤ k → get l.parts k ≡ get l.fn.parts k;
  length : length l.rows.items ≡ l.key;
  room : l.end ≤ vec_capacity l.rows;
}

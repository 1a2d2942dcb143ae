-- What the writer of a graph holds.
use Rattle.std.specs.Prelude.{ℕ, List, Option}
use Rattle.generational_dot.specs.declared.graph.Graph.{Graph}

-- the bytes that a graph's writer holds, where they are known
abbrev pub bytes_held : {W : Type 0} → (W → Option (List ℕ)) → Graph W → Option (List ℕ)
bytes_held contents graph = contents graph.out.now

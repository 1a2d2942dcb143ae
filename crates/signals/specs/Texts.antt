-- What scopes print.
use Rattle.std.specs.Prelude.{ℕ, List, ◌++◌, codes}
use Rattle.std.specs.Fmt.{decimal}
use Rattle.generational_core.specs.Machine.{OwnerName}

-- a scope's key and its store's number
abbrev pub scope_text : OwnerName → List ℕ
scope_text s = codes "scope " ++ (decimal s.key ++ (codes " of store " ++ decimal s.store))

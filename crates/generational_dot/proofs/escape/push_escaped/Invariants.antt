use Rattle.std.proofs.Common.{◌≡◌, ◌++◌, take}
use Rattle.generational_dot.specs.Texts.{escaped}
use Rattle.generational_dot.proofs.escape.push_escaped.Given as goal

abbrev pub invariant-loop-byte : goal.invariant-loop-byte
invariant-loop-byte l = l.out.items ≡ l.initial.out.items ++ escaped (take l.byte-index l.byte-items)

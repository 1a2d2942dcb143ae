use Rattle.std.proofs.Common.{◌≡◌, ◌≤◌, ◌++◌, ◌-◌, vec_len, vec_capacity}
use Rattle.rand_core.specs.Steps.{first_words}
use Rattle.rand_pcg.specs.Pcg.{pcg32}
use Rattle.boxes_script.proofs.words.fuzz_words.Given as goal

-- the words so far and those that the generator gives next are the first n, and there is room
abbrev pub invariant-loop : goal.invariant-loop
invariant-loop l = record {
  words : l.words.items ++ first_words pcg32 (l.n - l.counter) l.random
      ≡ first_words pcg32 l.n l.initial.random;
  made : vec_len l.words ≡ l.counter;
  room : l.n ≤ vec_capacity l.words;
}

use Rattle.std.proofs.Common.{◌≡◌, ℕ, suc, ◌+◌, ◌-◌, ◌<◌, List, [], ◌∷◌, ◌++◌, refl, sym, ap, ◌∙◌, arith}
use Rattle.std.proofs.lemmas.List.{append_assoc, append-nil}
use Rattle.rand_core.specs.Steps.{first_words}
use Rattle.rand_pcg.specs.Lcg.{Lcg}
use Rattle.rand_pcg.specs.Pcg.{pcg32}
use Rattle.boxes_script.proofs.words.fuzz_words.Goals as goal

-- the next word is the first of the rest
word_taken : (n k x : ℕ) (s t : Lcg) (xs ws : List ℕ) → k < n → (x, t) ≡ pcg32 s
    → xs ++ first_words pcg32 (n - k) s ≡ ws
    → (xs ++ x ∷ []) ++ first_words pcg32 (n - (k + 1)) t ≡ ws
unfolding first_words
word_taken n k x s t xs ws more step all =
    let e : n - k ≡ suc (n - (k + 1)) = omega arith in
    append_assoc xs (x ∷ []) _
    ∙ (ap (λ (y : ℕ × Lcg). xs ++ y.0 ∷ first_words pcg32 (n - (k + 1)) y.1) step
    ∙ (rw e at all))

none_left : (n k : ℕ) (s : Lcg) → n - k ≡ 0 → first_words pcg32 (n - k) s ≡ []
unfolding first_words
none_left n k s e = rw e refl

pub loop-preserved : goal.loop-preserved
loop-preserved c = record {
  words = rw c.push_reserved.ensures.items
      (word_taken c.args.n c.loop.counter _ c.loop.random c.next_word.new.self c.loop.words.items _
      c.loop-test.true c.next_word.ensures c.loop.invariant.words);
  made = omega (arith, c.push_reserved.ensures.len, c.loop.invariant.made);
  room = omega (arith, c.push_reserved.ensures.capacity, c.loop.invariant.room);
}

pub returns-clause-words : goal.returns-clause-words
returns-clause-words c =
    let none = none_left c.args.n c.loop.counter c.loop.random (omega (arith, c.loop-test.false)) in
    sym (append-nil c.loop.words.items)
    ∙ (ap (λ rest. c.loop.words.items ++ rest) (sym none)
    ∙ (c.loop.invariant.words ∙ ap (first_words pcg32 c.args.n) c.new-random.ensures))

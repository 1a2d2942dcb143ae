use Rattle.std.proofs.Common.{◌≡◌, ◌∙◌, ◌/◌, ◌+◌, ◌-◌, ◌*◌, List, ℕ, ap, refl, add-one, arith, drop, length, take}
use Rattle.std.specs.Int.{w64, from_le_bytes}
use Rattle.std.proofs.lemmas.List.{drop-drop, take_rest}
use Rattle.saved_bytes.specs.Files.{word}
use Rattle.saved_bytes.proofs.checksum.four_sums.Goals as goal

-- a number behind the first 32 * k bytes
word_behind : (bytes : List ℕ) (k i : ℕ) → word (take (length bytes - 32 * k) (drop (32 * k) bytes)) i ≡ word bytes (4 * k + i)
word_behind bytes k i =
    let place : 32 * k + 8 * i ≡ 8 * (4 * k + i) = omega arith in
    ap (λ (l : List ℕ). word l i) (take_rest bytes (32 * k))
    ∙ ap (from_le_bytes w64) (drop-drop (8 * i) (32 * k) bytes ∙ ap (λ (n : ℕ). drop n bytes) place)

pub loop-k-preserved : goal.loop-k-preserved
loop-k-preserved c =
    let bytes = c.args.bytes.now in
    let k = c.loop-k.k in
    let sums = c.loop-k.invariant in (
      rw (add-one, c.mix-a.ensures, c.word_at.ensures ∙ word_behind bytes k 0, sums.0) refl,
      rw (add-one, c.mix-b.ensures, c.word_at-in-loop-k.ensures ∙ word_behind bytes k 1, sums.1) refl,
      rw (add-one, c.mix-c.ensures, c.word_at-in-loop-k-2.ensures ∙ word_behind bytes k 2, sums.2) refl,
      rw (add-one, c.mix-d.ensures, c.word_at-in-loop-k-3.ensures ∙ word_behind bytes k 3, sums.3) refl,
    )

pub returns : goal.returns
returns c =
    let all : c.loop-k.k ≡ length c.args.bytes.now / 32 + 1 = omega arith in
    let sums = c.loop-k.invariant in
    rw (c.mix-3.ensures, c.mix-2.ensures, c.mix.ensures, sums.0, sums.1, sums.2, sums.3, all) refl

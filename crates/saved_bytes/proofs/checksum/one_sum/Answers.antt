use Rattle.std.proofs.Common.{◌≡◌, ◌/◌, ◌+◌, ◌*◌, refl, add-one, arith, length}
use Rattle.saved_bytes.proofs.checksum.one_sum.Goals as goal

pub loop-k-preserved : goal.loop-k-preserved
loop-k-preserved c =
    let place : 1 * c.loop-k.k + 0 ≡ c.loop-k.k = omega arith in
    rw (add-one, c.mix-sum.ensures, c.word_at.ensures, c.loop-k.invariant, place) refl

pub returns : goal.returns
returns c =
    let all : c.loop-k.k ≡ length c.args.bytes.now / 8 = omega arith in
    let place : 1 * (length c.args.bytes.now / 8) + 0 ≡ length c.args.bytes.now / 8 = omega arith in
    rw (add-one, c.mix.ensures, c.word_at-2.ensures, c.loop-k.invariant, all, place) refl

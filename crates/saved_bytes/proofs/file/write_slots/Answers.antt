use Rattle.std.specs.Prelude.{min}
use Rattle.std.proofs.Common.{ℕ, take, drop, ◌≡◌, ◌∙◌, ◌+◌, ◌/◌, length, arith, subst, sym}
use Rattle.saved_bytes.specs.declared.file.TheConstants.{PIECE}
use Rattle.saved_bytes.proofs.Written.{all_written, drop_most, none_written, one_written, take_most}
use Rattle.saved_bytes.proofs.file.write_slots.Goals as goal

pub loop-init : goal.loop-init
loop-init g c = none_written g.T.Saved.form c.args.slots.now (g.W.Write.contents c.args.out.now)

pub loop-preserved : goal.loop-preserved
loop-preserved g c =
    let rest = c.loop.rest.now in
    let wrote = c.in_ok-write_named_slots.ensures in
    let most : c.min.result ≡ min (length rest) PIECE = c.min.ensures in
    one_written g.T.Saved.form (length c.args.slots.now / PIECE + 1) c.loop.counter c.args.slots.now rest c.split_at.result.0.now c.split_at.result.1.now
    (g.W.Write.contents c.args.out.now) (g.W.Write.contents c.loop.out) (g.W.Write.contents c.write_named_slots.new.out) wrote.0 (omega arith)
    c.loop.invariant (c.split_at.ensures.front ∙ subst (λ (n : ℕ). take n rest ≡ take PIECE rest) (sym most) (take_most PIECE rest))
    (c.split_at.ensures.back ∙ subst (λ (n : ℕ). drop n rest ≡ drop PIECE rest) (sym most) (drop_most PIECE rest)) wrote.1 wrote.2

pub returns : goal.returns
returns g c = all_written g.T.Saved.form (length c.args.slots.now / PIECE + 1) c.loop.counter c.args.slots.now c.loop.rest.now
    (g.W.Write.contents c.args.out.now) (g.W.Write.contents c.loop.out) (omega arith) c.loop.invariant

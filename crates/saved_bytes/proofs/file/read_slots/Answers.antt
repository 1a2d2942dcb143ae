use Rattle.std.proofs.Common.{◌≡◌, ◌∙◌, [], ap, ◌+◌, ◌-◌, ◌/◌, ℕ, length, arith}
use Rattle.std.specs.Prelude.{min}
use Rattle.std.proofs.lemmas.Result.{err_from_is_err_and}
use Rattle.saved_bytes.specs.declared.file.TheConstants.{PIECE}
use Rattle.saved_bytes.proofs.Taken.{all_gone, all_pieces_read, next_gone, no_pieces_read, none_gone, one_gone, one_piece_read}
use Rattle.saved_bytes.proofs.file.read_slots.Goals as goal

pub returns-in_err-slots-clause-again : goal.returns-in_err-slots-clause-again
returns-in_err-slots-clause-again g c = λ slots bytes long are is.
    let n = c.args.count / PIECE + 1 in
    let old = g.R.Read.remaining c.args.input.now in
    let all : c.args.count ≡ c.args.count - 0 = omega arith in
    let most : c.min-first.result ≡ min (c.args.count - 0) PIECE = c.min-first.ensures ∙ ap (λ (k : ℕ). min k PIECE) all in
    let next = next_gone g.T.Saved.form c.args.files.now c.args.here n 0 c.args.count c.min-first.result slots [] old (omega arith) long most
    (none_gone g.T.Saved.form c.args.files.now c.args.here n slots old bytes are is) in
    let p = err_from_is_err_and c.from_residual.result c.from_residual.ensures.1 in
    rw (p.1, p.2) (tt, (c.in_err-slots.ensures.again next.chunk next.first next.rest next.long next.piece next.known).1)

pub loop-init : goal.loop-init
loop-init g c =
    let n = c.args.count / PIECE + 1 in
    let old = g.R.Read.remaining c.args.input.now in
    let mid = g.R.Read.remaining c.read_next.new.input in
    let all : c.args.count ≡ c.args.count - 0 = omega arith in
    let most : c.min-first.result ≡ min (c.args.count - 0) PIECE = c.min-first.ensures ∙ ap (λ (k : ℕ). min k PIECE) all in (
      one_piece_read old old mid c.in_ok-slots.ensures.only.0 (no_pieces_read old) c.in_ok-slots.ensures.only.1,
      λ slots bytes long are is.
          let next = next_gone g.T.Saved.form c.args.files.now c.args.here n 0 c.args.count c.min-first.result slots [] old (omega arith) long most
          (none_gone g.T.Saved.form c.args.files.now c.args.here n slots old bytes are is) in
          let read = (c.in_ok-slots.ensures.again next.chunk next.first next.rest next.long next.piece next.known).0 in
          one_gone g.T.Saved.form c.args.files.now c.args.here (n - (0 + 1)) c.min-first.result slots [] c.in_ok-slots.slots.items old mid next read.0 read.1,
    )

pub returns-in_err-more-clause-again : goal.returns-in_err-more-clause-again
returns-in_err-more-clause-again g c = λ slots bytes long are is.
    let n = c.args.count / PIECE + 1 in
    let now = g.R.Read.remaining c.loop.input in
    let items = c.loop.slots.items in
    let most : c.min-most.result ≡ min (c.args.count - length items) PIECE = cc in
    let next = next_gone g.T.Saved.form c.args.files.now c.args.here n (c.loop.counter + 1) c.args.count c.min-most.result slots items now (omega arith) long most
    (c.loop.invariant.1 slots bytes long are is) in
    let p = err_from_is_err_and c.from_residual-in_err-more.result c.from_residual-in_err-more.ensures.1 in
    rw (p.1, p.2) (tt, (c.in_err-more.ensures.again next.chunk next.first next.rest next.long next.piece next.known).1)

pub loop-preserved : goal.loop-preserved
loop-preserved g c =
    let n = c.args.count / PIECE + 1 in
    let old = g.R.Read.remaining c.args.input.now in
    let now = g.R.Read.remaining c.loop.input in
    let new = g.R.Read.remaining c.read_next-in-loop.new.input in
    let items = c.loop.slots.items in
    let most : c.min-most.result ≡ min (c.args.count - length items) PIECE = cc in (
      one_piece_read old now new c.in_ok-more.ensures.only.0 c.loop.invariant.0 c.in_ok-more.ensures.only.1,
      λ slots bytes long are is.
          let next = next_gone g.T.Saved.form c.args.files.now c.args.here n (c.loop.counter + 1) c.args.count c.min-most.result slots items now (omega arith) long most
          (c.loop.invariant.1 slots bytes long are is) in
          let read = (c.in_ok-more.ensures.again next.chunk next.first next.rest next.long next.piece next.known).0 in
          let all = one_gone g.T.Saved.form c.args.files.now c.args.here (n - ((c.loop.counter + 1) + 1)) c.min-most.result slots items c.in_ok-more.more.items now new next read.0 read.1 in
          rw c.in_ok-append.ensures.items all,
    )

pub returns-in_err-append-clause-again : goal.returns-in_err-append-clause-again
returns-in_err-append-clause-again g c = λ slots bytes long are is.
    let p = err_from_is_err_and c.from_residual-in_err-append.result c.from_residual-in_err-append.ensures.1 in
    rw p.1 (tt, p.2)

pub returns-in_err-expect_end-clause-again : goal.returns-in_err-expect_end-clause-again
returns-in_err-expect_end-clause-again g c = λ slots bytes long are is.
    let n = c.args.count / PIECE + 1 in
    let all = all_gone g.T.Saved.form c.args.files.now c.args.here n (c.loop.counter + 1) slots c.loop.slots.items (g.R.Read.remaining c.loop.input) (omega arith)
    (c.loop.invariant.1 slots bytes long are is) in
    let p = err_from_is_err_and c.from_residual-in_err-expect_end.result c.from_residual-in_err-expect_end.ensures.1 in
    rw (p.1, p.2) (tt, c.in_err-expect_end.ensures.again all.1)

pub returns-clause-again : goal.returns-clause-again
returns-clause-again g c = λ slots bytes long are is.
    let n = c.args.count / PIECE + 1 in
    let all = all_gone g.T.Saved.form c.args.files.now c.args.here n (c.loop.counter + 1) slots c.loop.slots.items (g.R.Read.remaining c.loop.input) (omega arith)
    (c.loop.invariant.1 slots bytes long are is) in
    (all.0, tt)

pub returns-clause-only : goal.returns-clause-only
returns-clause-only g c =
    all_pieces_read (g.R.Read.remaining c.args.input.now) (g.R.Read.remaining c.loop.input) (g.R.Read.remaining c.expect_end.new.input)
    c.loop.invariant.0 c.in_ok-expect_end.ensures.only.0 c.in_ok-expect_end.ensures.only.1

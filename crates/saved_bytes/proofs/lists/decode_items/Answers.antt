use Rattle.std.proofs.Common.{arith, ◌≡◌, ◌∷◌, [], length-append, refl}
use Rattle.std.proofs.lemmas.Result.{err_from_is_err_and}
use Rattle.saved_bytes.specs.Forms.{unread}
use Rattle.saved_bytes.proofs.Items.{all_may, all_read, none_read, none_spelled, one_more, one_refused, one_spelled, same_forms}
use Rattle.saved_bytes.proofs.lists.decode_items.Goals as goal

pub loop-init : goal.loop-init
loop-init g c =
    let form = g.T.Saved.form in
    let from = unread c.args.input.now in
    rw c.new-items.ensures.items
    (refl, none_read (λ _. Unit {0}) form (λ x y. form y ≡ form x) c.args.count from, none_spelled form from)

pub returns-in_err-item-clause-again : goal.returns-in_err-item-clause-again
returns-in_err-item-clause-again g c =
    let form = g.T.Saved.form in
    let p = err_from_is_err_and c.from_residual.result c.from_residual.ensures.1 in
    λ xs rest long fits is. rw (p.1, p.2) (
      one_refused (λ _. Unit {0}) form (λ x y. form y ≡ form x) c.args.count
          (unread c.args.input.now) c.loop.items.items (unread c.loop.input) c.in_err-item.field-0.0
          (unread c.decode.new.input) c.loop.invariant.1 (omega arith)
          (λ x rest _ fits is. c.in_err-item.ensures.again x rest fits is) xs rest long (all_may form xs) fits is,
      tt,
    )

pub loop-preserved : goal.loop-preserved
loop-preserved g c =
    let form = g.T.Saved.form in
    let from = unread c.args.input.now in
    let items = c.loop.items.items in
    let mid = unread c.loop.input in
    let new = unread c.decode.new.input in
    rw c.in_ok-push.ensures.items (
      omega (arith, length-append items (c.in_ok-item.item ∷ [])),
      one_more (λ _. Unit {0}) form (λ x y. form y ≡ form x) c.args.count from items mid c.in_ok-item.item new
          c.loop.invariant.1 (omega arith) (λ x rest _ fits is. c.in_ok-item.ensures.again x rest fits is),
      one_spelled form from items mid c.in_ok-item.item new c.loop.invariant.2 c.in_ok-item.ensures.only,
    )

pub returns-clause-again : goal.returns-clause-again
returns-clause-again g c = λ xs rest long fits is.
    let form = g.T.Saved.form in
    let items = c.loop.items.items in
    let all = all_read (λ _. Unit {0}) form (λ x y. form y ≡ form x) c.args.count (unread c.args.input.now) items
    (unread c.loop.input) c.loop.invariant.1 (omega arith) xs rest long (all_may form xs) fits is in
    ((same_forms form xs items all.0, all.1), omega arith)

pub returns-clause-only : goal.returns-clause-only
returns-clause-only g c = ((c.loop.invariant.2.fits, c.loop.invariant.2.only), omega arith)

-- The ticket's borrow is removed, if there is another.
use Rattle.generational_core.specs.declared.borrow.Borrow.{Borrow}
use Rattle.std.proofs.Common.{ap, length, List, sym, [], ◌∙◌, ◌∷◌, ◌≡◌}
use Rattle.store_parts.proofs.borrows.Borrows.remove.Goals.{in-One-1, in-Several-1}
use Rattle.store_parts.proofs.{none_left, only_first}
use Rattle.store_parts.proofs.borrows.Borrows.remove.Goals as goal

pub invariant_of-self-then-not-remove : goal.invariant_of-self-then-not-remove
invariant_of-self-then-not-remove c =
    let two = rw c.in-Several.is at c.self.invariant in
    let known = rw c.deref_mut.ensures.value at c.remove.ensures.known in
    let none = sym known ∙ c.if-not-remove.true in
    rw (c.remove.ensures.after, c.deref_mut.ensures.value, none_left c.args.ticket _ none) two

pub returns-then-len-eq1 : goal.returns-then-len-eq1
returns-then-len-eq1 c =
    let known = rw c.deref_mut.ensures.value at c.remove.ensures.known in
    let after = rw c.deref_mut.ensures.value at c.remove.ensures.after in
    let len = ap (λ (bs : List Borrow). length bs) c.deref.ensures in
    let one : length c.remove.new.self ≡ 1 = sym len ∙ sym c.len.ensures ∙ c.if-len-eq1.true in
    let first = rw c.deref-then-len-eq1.ensures at c.first.ensures in
    let only = only_first c.remove.new.self c.first.result one first in
    let told : c.match-self-2.self ≡ c.first.result ∷ [] =
    elim c.match-self-2.branch [ in-Several-1 w ↦ w.self-is | in-One-1 w ↦ w.self-is ] in
    rw (← c.self.view_is, c.in-Several.is) (
      sym known ∙ c.if-not-remove.false,
      (told ∙ only ∙ after, λ e. absurd (cc (told, e))),
    )

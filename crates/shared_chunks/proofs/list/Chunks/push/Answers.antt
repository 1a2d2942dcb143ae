use Rattle.std.proofs.Common.{◌+◌, vec_len, vec_capacity, length, length-append, ap, ◌∙◌, arith}
use Rattle.std.specs.Vec.{vec_items}
use Rattle.shared_chunks.specs.Listed.{Listed, joined_chunks}
use Rattle.shared_chunks.proofs.Lists.{joined_len}
use Rattle.shared_chunks.proofs.list.Chunks.push.Goals as goal

pub invariant_of-self-2 : goal.invariant_of-self-2
invariant_of-self-2 g c =
    let spare = c.turn.ensures.spare in
    let inv = c.self.invariant in
    let none = ap length inv.0 in
    let count = c.len-2.ensures in
    let empty = c.self.inside.spare.ok.0 in
    let items = c.self.inside.last.ok.0 in
    let now = c.push_reserved-2.new.self.ok.0 in
    let last = ap vec_len c.turn.ensures.last in
    let room = ap vec_capacity c.turn.ensures.last in
    let len = c.push_reserved-2.ensures.len in
    let kept = c.push_reserved-2.ensures.capacity in (
      spare.0,
      (λ some. absurd (omega arith)),
      ap (λ n. c.self.inside.full_len + n) (c.len-2.ensures ∙ c.self.inside.last.ok.0)
          ∙ joined_len c.self.inside.full.items c.turn.new.full.items c.self.inside.last
          c.self.inside.full_len c.turn.ensures.full inv.2,
      omega arith,
    )

pub returns-clause-bounded : goal.returns-clause-bounded
returns-clause-bounded g c =
    let spare = c.turn.ensures.spare in
    let inv = c.self.invariant in
    let none = ap length inv.0 in
    let count = c.len-2.ensures in
    let empty = c.self.inside.spare.ok.0 in
    let items = c.self.inside.last.ok.0 in
    let now = c.push_reserved-2.new.self.ok.0 in
    let last = ap vec_len c.turn.ensures.last in
    let room = ap vec_capacity c.turn.ensures.last in
    let len = c.push_reserved-2.ensures.len in
    let kept = c.push_reserved-2.ensures.capacity in
    let seen = ap (λ (l : Listed _). l.room) c.self.view_is in
    let all = joined_len c.self.inside.full.items c.turn.new.full.items c.self.inside.last
    c.self.inside.full_len c.turn.ensures.full inv.2 in
    let both = length-append (joined_chunks c.turn.new.full.items) (vec_items c.push_reserved-2.new.self) in
    omega arith

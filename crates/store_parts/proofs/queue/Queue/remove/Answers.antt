-- The ticket's borrow is removed.
use Rattle.store_parts.proofs.{arith, kept_queue, Left, left, none_left, standing_kept, sym, ◌∙◌}
use Rattle.store_parts.proofs.queue.Queue.remove.Goals as goal
use Rattle.store_parts.proofs.queue.Queue.remove.Goals.{After-drop_dead_behind}

gone : (c : After-drop_dead_behind) → Left c.self.inside.seats.items
    c.drop_dead_behind.new.seats.items
    c.self.inside.live c.args.ticket
gone c = left _ _ _ _ c.args.ticket _ c.self.invariant c.in-Some.ensures.there
    (c.drop_dead_behind.ensures.same ∙ c.drop_dead_before.ensures.same)

pub returns-in_default-clause-after : goal.returns-in_default-clause-after
returns-in_default-clause-after c =
    let known = rw c.self.view_is at c.in_default.ensures.known in
    sym (none_left c.args.ticket _ (sym known))

pub overflow_sub-len : goal.overflow_sub-len
overflow_sub-len c =
    let l = gone (goal.at.overflow_sub-len c).After-drop_dead_behind in
    omega (arith, l.within, c.len.ensures, c.drop_dead_behind.new.seats.ok.0)

pub invariant_of-self : goal.invariant_of-self
invariant_of-self c =
    let l = gone (goal.at.invariant_of-self c).After-drop_dead_behind in
    rw c.drop_dead.ensures (kept_queue _ _ c.drop_dead_behind.ensures.ascend l.count)

pub invariant_of-self-else-len-self : goal.invariant_of-self-else-len-self
invariant_of-self-else-len-self c =
    let l = gone (goal.at.invariant_of-self-else-len-self c).After-drop_dead_behind in
    let now = c.drop_dead_behind.ensures in record {
      ascend = now.ascend;
      count = l.count;
      first = now.first;
      last = now.last;
      half = omega (arith, c.if-len-self.false, c.len.ensures, c.drop_dead_behind.new.seats.ok.0);
    }

pub returns-then-len-self-clause-after : goal.returns-then-len-self-clause-after
returns-then-len-self-clause-after c = rw (c.drop_dead.ensures, standing_kept, ← c.self.view_is)
    (gone (goal.at.returns-then-len-self-clause-after c).After-drop_dead_behind).standing

pub returns-then-len-self-clause-others : goal.returns-then-len-self-clause-others
returns-then-len-self-clause-others c = rw (c.drop_dead.ensures, standing_kept, ← c.self.view_is)
    (gone (goal.at.returns-then-len-self-clause-others c).After-drop_dead_behind).others

pub returns-else-len-self-clause-after : goal.returns-else-len-self-clause-after
returns-else-len-self-clause-after c = rw (← c.self.view_is)
    (gone (goal.at.returns-else-len-self-clause-after c).After-drop_dead_behind).standing

pub returns-else-len-self-clause-others : goal.returns-else-len-self-clause-others
returns-else-len-self-clause-others c = rw (← c.self.view_is)
    (gone (goal.at.returns-else-len-self-clause-others c).After-drop_dead_behind).others

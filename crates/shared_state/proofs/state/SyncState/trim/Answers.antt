-- The base after a checkpoint describes the state, and counts the steps that were trimmed.
use Rattle.shared_state.proofs.{all_trimmed, ap, arith, Bases, BaseState, checkpoint_seen}
use Rattle.shared_state.proofs.{counts_of, state.SyncState.trim.Goals.In_ok-outdated, IsKept}
use Rattle.shared_state.proofs.{LogState, plain, plain_of, ReadBack, rebased, rules, shared}
use Rattle.shared_state.proofs.{subst, sym, taken_kept, trimmed_within, trims_of, ◌∙◌, ◌≡◌}
use Rattle.shared_state.proofs.state.SyncState.trim.Goals as goal

pub pack_rows-requires : goal.pack_rows-requires
pack_rows-requires g c = rw c.take_past-past.ensures.past c.self.invariant.past

pub of-base-requires : goal.of-base-requires
of-base-requires g c =
    trimmed_within c.self.inside.log.bases.base c.self.inside.log.steps c.in-Some.steps
    c.in-Some.ensures.counts c.in-Some.ensures.within

pub rebase-requires : goal.rebase-requires
rebase-requires g c =
    let taken = c.take_past-past.new.self in (
      search rules,
      trims_of taken.bases.base taken.steps c.in-Some.steps (c.in-Some.ensures.counts
          ∙ ap (λ (l : LogState). counts_of l.bases.base l.steps) (sym c.take_past-past.ensures.left))
          c.of-base.result c.of-base.ensures,
    )

-- the base describes the state, and the history goes on from it
tells : (g : _) (c : In_ok-outdated g)
    → (plain_of c.rebase.new.self.bases.base ≡ plain c.self.inside.store.state)
    × IsKept g.row.NUMBER c.self.inside.store.state c.rebase.new.self
tells g c =
    let bases = c.in_ok-outdated.ensures.bases in
    let base = ap (λ (b : Bases). b.base) bases ∙ c.of-base.ensures in
    rebased (taken_kept c.self.invariant c.take_past-past.ensures.left)
    c.histories_lead_to_sound_states.ensures.number
    c.histories_lead_to_sound_states.ensures.generation
    (ap (λ (b : Bases). b.past) bases) (ap (λ (b : BaseState). b.rows) base ∙ c.in-Ok.ensures.rows)
    (ap (λ (b : BaseState). b.number) base) (ap (λ (b : BaseState). b.next) base
    ∙ omega (arith, c.tickets_left-next.ensures.count, c.tickets_left-next.ensures.bounded))
    (ap (λ (b : BaseState). b.peak) base ∙ c.peak_live.ensures)
    (subst (ReadBack c.self.inside.store.state) (sym (ap (λ (b : BaseState). b.rows) base))
    c.in-Ok.ensures.back) c.in_ok-outdated.ensures.steps c.in_ok-outdated.ensures.standing

pub invariant_of-self-2 : goal.invariant_of-self-2
invariant_of-self-2 g c = (tells g c).1

pub returns-clause-ok : goal.returns-clause-ok
returns-clause-ok g c =
    let base = ap (λ (b : Bases). b.base) c.in_ok-outdated.ensures.bases ∙ c.of-base.ensures in
    let taken = c.take_past-past.new.self in
    checkpoint_seen taken c.rebase.new.self
    (ap (shared c.self.inside.store.state) c.take_past-past.ensures.left ∙ c.self.view_is)
    c.in_ok-outdated.ensures.steps (tells g c).0
    (ap (λ (b : BaseState). b.rows) base ∙ c.in-Ok.ensures.rows)
    (trims_of taken.bases.base taken.steps c.in-Some.steps (c.in-Some.ensures.counts
    ∙ ap (λ (l : LogState). counts_of l.bases.base l.steps) (sym c.take_past-past.ensures.left))
    c.rebase.new.self.bases.base base)
    (c.trimmed-trimmed.ensures
    ∙ ap all_trimmed (sym (ap (λ (b : Bases). b.base) c.in_ok-outdated.ensures.bases)))

use Rattle.entity_table.specs.Components.{sparse_in}
use Rattle.entity_table.specs.Tables.{element_in}
use Rattle.example_libraries.proofs.{ap, holds_listed, is_same, is_some, listed_alike, option_map, slice_get, slice_get-map, subst, sym, true}
use Rattle.example_libraries.proofs.{YieldsList-end, YieldsList-from_first, ◌∙◌, ◌≡◌}
use Rattle.std.specs.List.{IsDistinct}
use Rattle.example_libraries.proofs.entities.all_with_rare.Goals as goal

pub returns-clause-once : goal.returns-clause-once
returns-clause-once g c =
    let all = YieldsList-end (YieldsList-from_first (λ item. (item.0, item.1.now, item.2.now)) (λ rest. rest) _
    c.into_iter-entity-iterator.ensures.into_iter_gives)
    c.walk.yielded _ c.walk.yielded_by _ _ c.in-None.is c.next.ensures.steps in
    subst (IsDistinct is_same) (sym (listed_alike (λ p. (p.0, p.1.now, p.2.now)) (λ q. q.0) c.walk.yielded _ _
    all.0 c.walk.invariant)) c.join-entity-items.ensures.once

pub returns-clause-only : goal.returns-clause-only
returns-clause-only g c =
    let all = YieldsList-end (YieldsList-from_first (λ item. (item.0, item.1.now, item.2.now)) (λ rest. rest) _
    c.into_iter-entity-iterator.ensures.into_iter_gives)
    c.walk.yielded _ c.walk.yielded_by _ _ c.in-None.is c.next.ensures.steps in
    holds_listed (λ p. (p.0, p.1.now, p.2.now)) (λ q. q.0)
    (λ e. (is_some (element_in c.args.table.now e) ≡ true) × (is_some (sparse_in c.args.rare.now e) ≡ true))
    c.walk.yielded _ _ all.0 c.walk.invariant
    (λ k y at. let has = c.join-entity-items.ensures.shown k y.0 y.1 y.2 at in (ap is_some has.0, ap is_some has.1))

pub returns-clause-all : goal.returns-clause-all
returns-clause-all g c e v n sees has =
    let all = YieldsList-end (YieldsList-from_first (λ item. (item.0, item.1.now, item.2.now)) (λ rest. rest) _
    c.into_iter-entity-iterator.ensures.into_iter_gives)
    c.walk.yielded _ c.walk.yielded_by _ _ c.in-None.is c.next.ensures.steps in
    let at = c.join-entity-items.ensures.every e v n sees has in (
      at.0,
      at.1,
      ap (λ l. slice_get l at.0) (listed_alike (λ p. (p.0, p.1.now, p.2.now)) (λ q. q.0) c.walk.yielded _ _
          all.0 c.walk.invariant) ∙ (slice_get-map (λ q. q.0) _ at.0 ∙ ap (option_map (λ q. q.0)) at.2),
      at.3,
    )

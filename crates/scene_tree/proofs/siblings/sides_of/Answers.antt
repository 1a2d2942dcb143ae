use Rattle.scene_tree.proofs.{ap, families, next_noted, previous_noted, slot_of, subst, sym, ◌∙◌, ◌≡◌}
use Rattle.scene_tree.specs.Siblings.{next_in, node_at, previous_in, siblings_at}
use Rattle.scene_tree.proofs.siblings.sides_of.Goals as goal

pub returns-in-Some : goal.returns-in-Some
returns-in-Some g c =
    let links = c.args.links.now.items in
    let node = c.args.node in
    let up = rw c.slot_of-slot.ensures at (ap slot_of (sym c.parent_at.ensures ∙ c.in-Some.is)) in
    let tie = rw c.slot_of-slot.ensures at c.sides_at.ensures in
    let among = c.requires.among _ up in record {
      previous = subst (λ o. node_at links c.sides_at.result.0 ≡ previous_in node (siblings_at (families links) o)) (sym up)
          (previous_noted links _ c.requires.linked node among tie.0 _ _ tie.1);
      next = subst (λ o. node_at links c.sides_at.result.1 ≡ next_in node (siblings_at (families links) o)) (sym up)
          (next_noted links _ c.requires.linked node among tie.0 _ _ tie.1);
    }

use Rattle.reactive.proofs.{arith, kept_insert, refl, whole_cleared}
use Rattle.reactive.proofs.reactive.Reactive.source.Goals as goal

pub invariant_of-self : goal.invariant_of-self
invariant_of-self g c = whole_cleared _ _ _ _ (kept_insert c.insert.result _ _ _ _ _ _ _ c.self.invariant.kept refl
    c.insert.ensures.dirtied c.insert.ensures.dirty c.insert.ensures.simple
    c.insert.ensures.revision c.insert.ensures.put c.insert.ensures.forgotten c.insert.ensures.refused
    c.insert.ensures.links
    (record {
      asked = c.new.ensures.items;
      plain = λ v is. refl;
      changed = refl;
      checked = omega arith;
    }))
    c.clear.ensures

use Rattle.std.proofs.Common.{◌≡◌, ◌≤◌, ◌<◌, ℕ, None, Some, slice_get, slice_index_or}
use Rattle.generational_core.specs.Names.{Name}
use Rattle.generational_core.specs.State.{IsGiven}
use Rattle.generational_core.specs.declared.boxes.GenerationalBoxId.{GenerationalBoxId}
use Rattle.generational_laws.specs.PlainStores.{IsSimple}
use Rattle.document_tree.specs.Keeping.{key_in, Leads}
use Rattle.document_tree.specs.declared.building.Spot.{Spot}
use Rattle.document_tree.proofs.building.lead_all.Given as goal

-- the places so far refer to their keys, and the others to what they referred to
abbrev pub invariant-loop-at : goal.invariant-loop-at
invariant-loop-at g l = record {
  simple : IsSimple (g.S.AnyStorage.state l.store);
  number : (g.S.AnyStorage.state l.store).number ≡ (g.S.AnyStorage.state l.fn.store).number;
  given : (n : Name) → IsGiven (g.S.AnyStorage.state l.fn.store) n → IsGiven (g.S.AnyStorage.state l.store) n;
  led : (k : ℕ) (m : Spot) → k < l.at → slice_get l.spots k ≡ Some m
      → key_in (g.S.AnyStorage.state l.store) m.place.id ≡ Some (slice_index_or l.keys m.part 0);
  rest : (k : ℕ) (m : Spot) → l.at ≤ k → slice_get l.spots k ≡ Some m
      → Leads (g.S.AnyStorage.state l.store) m.part m.place.id;
  none : (id : GenerationalBoxId) → key_in (g.S.AnyStorage.state l.fn.store) id ≡ None
      → key_in (g.S.AnyStorage.state l.store) id ≡ None;
}

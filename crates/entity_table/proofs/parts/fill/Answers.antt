use Rattle.std.proofs.Common.{ap, arith, length, map, slice_get, subst, sym, ◌≡◌, ◌∙◌, ◌∷◌, ◌++◌, ◌<◌, is_some}
use Rattle.std.proofs.lemmas.Bool.{true≢false}
use Rattle.std.proofs.lemmas.List.{length-set}
use Rattle.std.specs.List.Sorted.{IsStrictlyIncreasing}
use Rattle.generational_core.specs.declared.boxes.GenerationalBoxId.{GenerationalBoxId}
use Rattle.entity_table.proofs.{between, filled_more, push_first}
use Rattle.entity_table.proofs.parts.fill.Goals as goal

pub unreachable-requires : goal.unreachable-requires
unreachable-requires g c =
    let done = c.loop-id.invariant.done in
    let x : GenerationalBoxId × g.row.C.Denot = (c.in-Some.id, c.in-Some.component) in
    let split : c.args.rows.items ≡ c.pop.new.self.items ++ x ∷ done.0 =
    done.1 ∙ (ap (λ xs. xs ++ done.0) c.in-Some.ensures.items ∙ push_first c.pop.new.self.items x done.0) in
    let live = c.requires.fits.live (length c.pop.new.self.items) x
    (ap (λ xs. slice_get xs (length c.pop.new.self.items)) split ∙ between c.pop.new.self.items x done.0) in
    true≢false (sym live.2 ∙ ap is_some (c.in-None.ensures.none live.0 live.1))

pub loop-id-preserved : goal.loop-id-preserved
loop-id-preserved g c =
    let done = c.loop-id.invariant.done in
    let x : GenerationalBoxId × g.row.C.Denot = (c.in-Some.id, c.in-Some.component) in
    let split : c.args.rows.items ≡ c.pop.new.self.items ++ x ∷ done.0 =
    done.1 ∙ (ap (λ xs. xs ++ done.0) c.in-Some.ensures.items ∙ push_first c.pop.new.self.items x done.0) in
    let lt : c.in-Some-find.entity.slot < length c.loop-id.map.rows =
    omega (arith, c.requires.room c.in-Some-find.entity c.in-Some-find.ensures.live, c.loop-id.invariant.room) in
    record {
      done = (
        x ∷ done.0,
        split,
        filled_more c.loop-id.map c.put.new.self c.pop.new.self.items done.0 x c.in-Some-find.entity
            (subst (λ rows. IsStrictlyIncreasing (map (λ r. r.0.slot) rows)) split c.requires.fits.ordered)
            c.in-Some-find.ensures.found
            (c.in-Some-find.ensures.own ∙ sym (c.loop-id.invariant.number ∙ c.requires.number)) lt
            c.put.ensures.number c.put.ensures.rows done.2,
      );
      number = c.put.ensures.number ∙ c.loop-id.invariant.number;
      room = ap length c.put.ensures.rows ∙ (length-set c.loop-id.map.rows _ _ ∙ c.loop-id.invariant.room);
    }

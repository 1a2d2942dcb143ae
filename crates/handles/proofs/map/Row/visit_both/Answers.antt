use Rattle.std.proofs.Common.{arith, inl, inr, refl, rules, sym}
use Rattle.handles.specs.declared.map.Row.TheVariants.{Held}
use Rattle.handles.specs.Visits.{CalledOnBoth}
use Rattle.handles.proofs.Visits.{both_called, neither, two_generations, vacant_none}
use Rattle.handles.proofs.map.Row.visit_both.Goals as goal

pub returns-in_default-clause-changed : goal.returns-in_default-clause-changed
returns-in_default-clause-changed g c = neither _ _ (CalledOnBoth g.F.FnMut) _ _ _ (λ n. inl (vacant_none c.args.self.now n c.in_default.not-Held))

pub returns-in_default-other-clause-changed : goal.returns-in_default-other-clause-changed
returns-in_default-other-clause-changed g c = rw (c.in-Held.is)
    (neither _ _ (CalledOnBoth g.F.FnMut) _ (Held c.in-Held.site c.in-Held.generation c.in-Held.value) c.args.other.now (λ n. inr (vacant_none c.args.other.now n c.in_default-other.not-Held)))

pub returns-then-generation-own-clause-changed : goal.returns-then-generation-own-clause-changed
returns-then-generation-own-clause-changed g c =
    let called : CalledOnBoth g.F.FnMut c.args.f.now c.at.result (c.in-Held.value, c.in-Held-other.with) (c.f.new.arg3, c.f.new.arg4) c.f.new.self =
    record { first = _; second = _; shows = (refl, refl); left = _; called = c.f.ensures; leaves = (refl, refl) } in
    rw (c.in-Held.is, c.in-Held-other.is) (both_called c.args.number c.args.slot (CalledOnBoth g.F.FnMut) c.in-Held.site c.in-Held.generation c.in-Held-other.field-0 c.in-Held-other.own c.in-Held.value c.f.new.arg3 c.in-Held-other.with c.f.new.arg4 (rw (c.at.ensures) at called) c.if-generation-own.true)

pub returns-else-generation-own-clause-changed : goal.returns-else-generation-own-clause-changed
returns-else-generation-own-clause-changed g c = rw (c.in-Held.is, c.in-Held-other.is)
    (neither _ _ (CalledOnBoth g.F.FnMut) _ (Held c.in-Held.site c.in-Held.generation c.in-Held.value) (Held c.in-Held-other.field-0 c.in-Held-other.own c.in-Held-other.with)
    (λ n. two_generations c.in-Held.site c.in-Held-other.field-0 c.in-Held.generation c.in-Held-other.own c.in-Held.value c.in-Held-other.with n c.if-generation-own.false))

-- The names that these proofs take from below, passed on from one place.
pub use Rattle.generational_core.proofs.machine.Calls.{keeps_free}
pub use Rattle.generational_core.specs.Leaving.{IsUnchanged}
pub use Rattle.generational_errors.specs.Texts.{as_refused_mut}
pub use Rattle.generational_laws.proofs.callers.{err_so, left_ticket, left_twice, read_short, set_free}
pub use Rattle.std.proofs.Common.{ap, arith, inl, inr, refl, subst, sym, ◌∙◌}
pub use Rattle.std.proofs.{lemmas.Grind.common_steps}

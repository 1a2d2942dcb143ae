-- The names that the proofs cite, passed on from one place.
pub use Rattle.example_histories.specs.{Rows.owner, Rows.◌#◌}
pub use Rattle.generational_core.proofs.maps.Maps.{by_number, contains-insert_name}
pub use Rattle.generational_core.specs.Machine.{act, Action, Answer, NewNames, Outcome}
pub use Rattle.generational_core.specs.{Borrowing.Guard, Cells.Cell, Cells.Cell.Ref, Cells.Cell.Shared}
pub use Rattle.generational_core.specs.{Cells.Cell.Value, Cells.Content.Here, Conditions.fresh}
pub use Rattle.generational_core.specs.{Machine.Answer.Refused, Names.Name, Names.name_cmp, Names.Names}
pub use Rattle.generational_core.specs.{State.Ownership, State.State, Steps.limit_tickets}
pub use Rattle.generational_errors.specs.declared.error.Location.{Location}
pub use Rattle.generational_errors.specs.declared.error.StoreError.TheVariants.{NumbersExhausted}
pub use Rattle.generational_sessions.specs.{Session.Held.Nothing}
pub use Rattle.std.proofs.Common.{ap, arith, Bool, cond, false, inl, inr, List, not, Option, Some, subst, sym}
pub use Rattle.std.proofs.Common.{true, ℕ, ⊎_elim, ◌++◌, ◌||◌, ◌∙◌, ◌≡◌}
pub use Rattle.std.proofs.{Math.ListN.drop, Math.ListN.take, lemmas.List.take-append-drop}
pub use Rattle.std.specs.{FinMap.find, FinMap.is_sorted, FinMap.put, Ordering.nat_cmp, Prelude.[], Prelude.refl}
pub use Rattle.std.specs.{Prelude.◌↔◌, Prelude.◌∷◌}
unfoldable pub use Rattle.generational_core.specs.Borrowing.{reach, refusal_to_read, refusal_to_write}
unfoldable pub use Rattle.generational_core.specs.Ending.{hindrance_to}
unfoldable pub use Rattle.generational_core.specs.Names.{change, is_name}

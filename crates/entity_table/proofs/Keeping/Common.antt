-- The names of std, of the machine and of the specs that most proofs here cite, passed on from one place.
pub use Rattle.entity_table.specs.Components.{component_in}
pub use Rattle.entity_table.specs.Keeping.{IsTableKept}
pub use Rattle.entity_table.specs.Sweeping.{SiftsComponents, Sweeps}
pub use Rattle.entity_table.specs.Tables.{created_at, element_in, Entity, IsDense, IsSifted, KeepsEntityLocations}
pub use Rattle.entity_table.specs.Tables.{Sifts, TableState, WasSpawned}
pub use Rattle.entity_table.specs.Walking.{AreSeen, joined_rows, shown_rows}
pub use Rattle.generational_core.proofs.machine.{given_other, quiet_ends, quiet_sees, same_value}
pub use Rattle.generational_core.proofs.machine.{slot_apart, slot_within}
pub use Rattle.generational_core.proofs.machine.Calls.{ends, meets_tells, refused_make, seen_reached, sets, unseen}
pub use Rattle.generational_core.proofs.machine.Calls.Steps.{made_new, meets_given, meets_number}
pub use Rattle.generational_core.proofs.maps.Maps.{by_number, by_option, key_cases}
pub use Rattle.generational_core.specs.Boxes.{name_of}
pub use Rattle.generational_core.specs.Machine.Action.{End, Make, SetValue}
pub use Rattle.generational_core.specs.Machine.Answer.{Done, Made, Old}
pub use Rattle.generational_core.specs.declared.boxes.GenerationalPointer.{GenerationalPointer}
pub use Rattle.generational_core.specs.{Conditions.fresh, State.IsSound, Steps.Meets, Slots.slots, State.State}
pub use Rattle.generational_core.specs.{Seeing.value_in}
pub use Rattle.generational_errors.specs.declared.error.Location.{Location}
use Rattle.generational_laws.proofs.callers as laws
pub use laws.{fresh_sees, fresh_simple, IsSeen, made_simple, making, others_left, reach_apart}
pub use laws.{same_id_sees, seen_cell, seen_store, set_seen, simple_still, simple_taken}
pub use Rattle.generational_laws.specs.PlainStores.{IsSimple, HasNoReferences}
pub use Rattle.handles.proofs.Maps.{count_set, emptied_here, listed_count, listed_every, listed_rise, listed_shown}
pub use Rattle.handles.proofs.Maps.{one, one_held, one_slot, one_vacant, put_here, put_lost, same_listed, same_values, set_apart}
pub use Rattle.handles.proofs.Maps.{value_within}
pub use Rattle.handles.specs.Handles.{at_slot, id_in, IsOther, IsSame, pointer_in, slot_in}
pub use Rattle.handles.specs.Maps.{count, handle_of, held, listed, MapState, row_at, value_of}
pub use Rattle.handles.specs.Sites.{SiteState, TellsLocation, told_at, told_in}
pub use Rattle.handles.specs.declared.map.Row.{Row}
pub use Rattle.handles.specs.declared.map.Row.TheVariants.{Held, Vacant}
pub use Rattle.std.proofs.Common.{ap, arith, Bool, Err, false, inl, inr, length, List, map, None, Ok, Option}
pub use Rattle.std.proofs.Common.{refl, rules, Some, subst, suc, sym, true, zero, ℕ, [], ⊎_elim, ◌+◌, ◌<◌}
pub use Rattle.std.proofs.Common.{◌∙◌, ◌∷◌, ◌≡◌, ◌≤◌}
pub use Rattle.std.proofs.lemmas.Bool.{true≢false}
pub use Rattle.std.proofs.lemmas.List.{get_or-set_same, length-map, length-set}
pub use Rattle.std.proofs.lemmas.List.Elements.{All-cons, All-head, All-nil, All-tail}
pub use Rattle.std.proofs.lemmas.List.Kept.{AllPairs-cons, AllPairs-from_increasing}
pub use Rattle.std.proofs.lemmas.Option.{none-some, same_Some, slice_get-map}
pub use Rattle.std.specs.Option.{option_map}
pub use Rattle.std.specs.Prelude.{if◌then◌else◌, nat_eq}
pub use Rattle.generational_core.specs.declared.boxes.GenerationalBoxId.{GenerationalBoxId}
pub use Rattle.entity_table.specs.declared.entity.EntityKind.{EntityKind}
pub use Rattle.std.proofs.{lemmas.Grind.common_steps, lemmas.Simd.map-map, Common.◌≢◌}
pub use Rattle.std.specs.List.Sorted.{IsStrictlyIncreasing}
pub use Rattle.std.specs.Prelude.{is_some, option_copied, slice_get, slice_set, ◌⊎◌}
pub use Rattle.std.specs.{List.All, List.AllPairs, Borrow.Bor, Fn.FnReturnsAt}
pub use Rattle.handles.proofs.Told.{told_here, told_more}
pub use Rattle.handles.proofs.Visits.{both_every, both_shown, changed_at, changed_back}
pub use Rattle.location_list.specs.Locations.{IsAt}
pub use Rattle.std.specs.Prelude.{IfSome}
pub use Rattle.std.specs.Cmp.{nat_eq_equiv}
pub use Rattle.generational_core.specs.Boxes.{name_in}
pub use Rattle.generational_core.specs.State.{IsGiven}
pub use Rattle.std.proofs.lemmas.Option.{slice_get_within}
pub use Rattle.std.specs.Prelude.{OnErr, Result, ◌↔◌}

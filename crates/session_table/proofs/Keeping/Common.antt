-- The names of std, of the machine and of the specs that most proofs here cite, passed on from one place.
pub use Rattle.generational_core.proofs.machine.{given_other, quiet_ends, quiet_sees, same_value, slot_within}
pub use Rattle.generational_core.proofs.machine.Calls.{ends, keeps_record, meets_tells, seen_reached, sets, unseen}
pub use Rattle.generational_core.proofs.machine.Calls.Steps.{made_new, meets_given, meets_number, meets_sound}
pub use Rattle.generational_core.proofs.maps.Maps.{by_option, name_apart, name_cases, name_here}
pub use Rattle.generational_core.proofs.maps.Maps.{name_same, name_total}
pub use Rattle.generational_core.specs.Machine.{OwnerName, ownership}
pub use Rattle.generational_core.specs.Machine.Action.{End, Make, SetValue}
pub use Rattle.generational_core.specs.Machine.Answer.{Done, Made, Old}
pub use Rattle.generational_core.specs.declared.boxes.GenerationalBoxId.{GenerationalBoxId}
pub use Rattle.generational_core.specs.declared.boxes.GenerationalPointer.{GenerationalPointer}
pub use Rattle.generational_core.specs.{Names.among, Cells.Cell, Conditions.fresh, State.IsSound}
pub use Rattle.generational_core.specs.{Slots.slots, State.IsGiven, Steps.Meets, Boxes.name_in}
pub use Rattle.generational_core.specs.{Names.Name, Names.name_cmp, Boxes.name_of, State.Ownership}
pub use Rattle.generational_core.specs.{State.State, Seeing.value_in}
unfoldable pub use Rattle.generational_core.specs.{Names.is_name}
pub use Rattle.generational_errors.specs.declared.error.Location.{Location}
use Rattle.generational_laws.proofs.callers as laws
pub use laws.{ended_next, fresh_sees, fresh_simple, get_take, made_next, made_simple, making, others_left, reach_apart}
pub use laws.{same_id_sees, seen_cell, seen_store, set_seen, simple_still, simple_taken, taken_seen}
pub use Rattle.generational_laws.specs.PlainStores.{HasNoReferences, IsSimple}
pub use Rattle.handles.proofs.Told.{told_here, told_more}
pub use Rattle.handles.specs.Handles.{id_in, IsOther, nowhere, pointer_in}
pub use Rattle.handles.specs.Sites.{SiteState, TellsLocation, told_at, told_in}
pub use Rattle.location_list.specs.Locations.{IsAt}
pub use Rattle.session_table.specs.Keeping.{AreLive, HasLost, HasPut, RowNames, held_in, held_of, AreSessionsKept, ShowsSomething}
pub use Rattle.session_table.specs.Sessions.{Entry, if_young, is_young, left_of, LiveSession, entry_names_in, entry_names}
pub use Rattle.session_table.specs.Sessions.{stores_of}
pub use Rattle.session_table.specs.Tables.{created_at, EndsAt, has_session, IsOrderly, keeps, KeepsEntryLocations, live, live_row}
pub use Rattle.session_table.specs.Tables.{session_in, shown_in, table_of, SessionsState, WasPut}
pub use Rattle.session_table.specs.declared.session.Session.{Session}
pub use Rattle.std.proofs.Common.{ap, arith, Bool, cond, Err, false, inl, inr, length, List, map}
pub use Rattle.std.proofs.Common.{None, Ok, Option, refl, rules, Some, subst, sym, take, true, ℕ}
pub use Rattle.std.proofs.Common.{[], ⊎_elim, ◌++◌, ◌+◌, ◌-◌, ◌<◌, ◌||◌, ◌∙◌, ◌∷◌, ◌≡◌, ◌≢◌, ◌≤◌}
pub use Rattle.std.specs.Cmp.{nat_eq_equiv}
pub use Rattle.std.proofs.lemmas.Bool.{cases_Bool, cases_eq, cond_both, eqb-true, false_from_ne_true}
pub use Rattle.std.proofs.lemmas.List.{length-map, map-append, take-map, take-set, take-take}
pub use Rattle.std.proofs.lemmas.List.Elements.{All-from_recursion, All-push, recursion_from_All}
pub use Rattle.std.proofs.lemmas.Map.Entries.{lookup_from_place, place_from_lookup}
pub use Rattle.std.proofs.lemmas.Map.Made.{keys_of-map_values, lookup-map_values}
pub use Rattle.std.proofs.lemmas.Option.{none-some, same_Some, slice_get-map, slice_get_within}
pub use Rattle.std.proofs.{lemmas.Map.Views.All-map-remove_entry, lemmas.Cmp.eq_by_cmp_equiv}
pub use Rattle.std.proofs.{lemmas.Map.Keys.IsDistinct-push, lemmas.List.Folds.list_any-append}
pub use Rattle.std.proofs.{lemmas.Bool.true≢false}
pub use Rattle.std.proofs.lemmas.List.{append-nil, take_all}
pub use Rattle.std.proofs.Math.{Numerals.sub-one, Seq.take-suc}
pub use Rattle.std.proofs.lemmas.Option.{get_or_from_slice_get}
pub use Rattle.std.proofs.Common.{add-one, append_assoc, drop, drop-cons, suc, zero}
pub use Rattle.std.specs.List.{position}
pub use Rattle.indexmap.proofs.MapLemmas.{absent_from_lookup, insert_entry-absent}
pub use Rattle.indexmap.proofs.MapLemmas.{swap_remove_entry-found, swap_remove_entry-missing}
pub use Rattle.indexmap.proofs.SetLemmas.{map-swap_remove}
pub use Rattle.indexmap.specs.IndexMap.{insert_entry, swap_remove_entry}
pub use Rattle.session_table.specs.Tables.{expired_ids, HasExpired, find_session, swap_retain, swap_shed, value_under}
pub use Rattle.std.specs.HashMap.Eq.{lookup_congr}
pub use Rattle.std.specs.Map.{keys_of, lookup, remove_entry, set_value}
pub use Rattle.std.specs.Prelude.{IfSome, IsTrue, is_some, nat_eq, not, option_map, slice_get, swap_remove}
pub use Rattle.std.specs.List.{FoldsTo}
pub use Rattle.std.specs.{List.AllByRecursion, Cmp.IsEquivalence, Ordering.nat_cmp, Prelude.◌⊎◌}
unfoldable pub use Rattle.std.specs.List.{IsDistinct}
pub use Rattle.std.proofs.lemmas.List.Sorted.{IsPermutation-map, IsPermutation-swap_remove, list_any-IsPermutation}
pub use Rattle.std.proofs.lemmas.Map.Keys.{IsDistinct-IsPermutation}
pub use Rattle.std.proofs.lemmas.Map.Views.{All-map-IsPermutation}
pub use Rattle.std.specs.List.Sorted.{IsPermutation}

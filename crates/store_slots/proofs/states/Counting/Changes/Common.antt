-- The names of machine and store that most proofs here cite, passed on from one place.
pub use Rattle.generational_core.proofs.machine.{AreApart, cell_read, contains_up_to, find_bare}
pub use Rattle.generational_core.proofs.machine.{get_bare_cell, get_lasts, IsLast, one_last, put}
pub use Rattle.generational_core.proofs.machine.{put_new, read_append}
use Rattle.generational_core.proofs.machine.Calls.Steps
pub use Steps.{away_absent, away_each, away_nothing, away_one, away_shared, borrowed_end}
pub use Steps.{close_each, close_nothing, close_one, first_borrowed_end, first_hindered}
pub use Steps.{one_hindered, turn_hindered, turn_sweep}
pub use Rattle.generational_core.proofs.machine.Calls.Steps.Changes.{closing_linked, without_view}
use Rattle.generational_core.proofs.maps.Maps
pub use Maps.{by_name, by_number, changed_there, contains-insert_name, get-changed_here}
pub use Maps.{get-insert_apart, get-insert_name, get-keep, get-remove_apart, get-remove_here}
pub use Maps.{is_ref, name_exact, name_here, name_test, name_total, named_from, named_gives}
pub use Rattle.generational_core.specs.Borrowing.{BorrowRefusal, fill, leads_to, write_refusal}
pub use Rattle.generational_core.specs.Cells.{Cell, Content, content_of, is_shared, location_of}
pub use Rattle.generational_core.specs.Cells.Cell.{Ref, Shared, Value}
pub use Rattle.generational_core.specs.Conditions.{fresh, IsFresh, IsLinked}
pub use Rattle.generational_core.specs.Ending.{cells_after, close, first_hindrance, hindrance_at}
pub use Rattle.generational_core.specs.Machine.{Action, add_cell, turn}
pub use Rattle.generational_core.specs.Names.{among, Name, name_cmp, NameMap, Names}
pub use Rattle.generational_core.specs.Plain.{bare_cell, bare_cells, bare_entry, Plain}
pub use Rattle.generational_core.specs.Rows.{cell_rows, give_up_to, read_rows, slot_rows}
pub use Rattle.generational_core.specs.Slots.{free, is_free, is_retired, last_generation, last_name}
pub use Rattle.generational_core.specs.Slots.{retired, slots, slots_of}
pub use Rattle.generational_core.specs.State.{content_at, HasTargets, is_named, State}
pub use Rattle.generational_core.specs.declared.borrow.Borrow.{Borrow}
pub use Rattle.generational_core.specs.declared.rows.BaseRow.{BaseRow}
pub use Rattle.generational_core.specs.{Cells.Content.Here, StepCalls.is_hindered, Steps.IsNew}
pub use Rattle.generational_core.specs.{Cells.Content.Lent, Cells.refers_to, Cells.refill}
pub use Rattle.generational_core.specs.{Seeing.unborrowed_value}
unfoldable pub use Rattle.generational_core.specs.Ending.{hindrance_to, sweep, take_away}
unfoldable pub use Rattle.generational_core.specs.Names.{is_name}
pub use Rattle.generational_errors.specs.declared.error.Location.{Location}
pub use Rattle.std.proofs.Common.{ap, append-nil, append_assoc, arith, Bool, cond, count_by, drop}
pub use Rattle.std.proofs.Common.{Err, false, IfErr, IfSome, inl, inr, is_none, is_some, leb}
pub use Rattle.std.proofs.Common.{length, length-append, List, ltb, max, nat_cmp, nat_eq, nat_lt}
pub use Rattle.std.proofs.Common.{None, not, Ok, OnErr, OnOk, Option, option_map, refl, Result}
pub use Rattle.std.proofs.Common.{slice_get, slice_index_or, slice_set, Some, subst, suc, sym, T}
pub use Rattle.std.proofs.Common.{take, true, unwrap_or, zero, ℕ, [], ⊎_elim, ◌&&◌, ◌++◌, ◌+◌, ◌-◌}
pub use Rattle.std.proofs.Common.{◌<◌, ◌||◌, ◌∙◌, ◌∷◌, ◌≡◌, ◌≢◌, ◌≤◌}
pub use Rattle.std.proofs.lemmas.Bool.{and_parts, cases_eq, eq-eqb, eqb-true, le-ltb, lt-ltb}
pub use Rattle.std.proofs.lemmas.List.{at_drop_all, at_drop_more, length-map, length-set}
pub use Rattle.std.proofs.lemmas.List.Folds.{list_any-append}
pub use Rattle.std.proofs.lemmas.Map.Keys.{IsDistinct-head, IsDistinct-tail}
pub use Rattle.std.proofs.lemmas.Option.{IfSome_then, slice_get_cases, slice_get_past}
pub use Rattle.std.proofs.{lemmas.Cmp.eq_by_cmp_equiv, Math.ListN.get_or-map, lemmas.Bool.ltb-true}
pub use Rattle.std.proofs.{lemmas.Bool.Decides.nat_tests, lemmas.Bool.ne_eqb}
pub use Rattle.std.proofs.{lemmas.List.nil_from_length, Math.Bool.or-false}
pub use Rattle.std.proofs.{lemmas.Option.slice_get_within, lemmas.List.Sums.sum_by-cons}
pub use Rattle.std.specs.List.{AllByRecursion, list_all, list_any}
pub use Rattle.std.specs.{Cmp.both_ways, Ordering.eq_by_cmp, Cmp.nat_cmp_total, Option.option_or}
unfoldable pub use Rattle.std.specs.List.{IsDistinct}
pub use Rattle.store_cells.proofs.states.{err_from, ok_then, readable, unrefused}
pub use Rattle.store_cells.specs.Entries.{EntryList, IsUnborrowed, kept_data, target_name_of}
pub use Rattle.store_cells.specs.Entry.{cell_in, cell_of, cell_under, change_entry, content_in}
pub use Rattle.store_cells.specs.Entry.{Entry, has_no_borrow, is_live, is_unborrowed_value, Kept}
pub use Rattle.store_cells.specs.Entry.{less_read, one_read, referring, target_name_in, with_cell_content}
pub use Rattle.store_cells.specs.Entry.Kept.{Empty, Live, Refers}
pub use Rattle.store_cells.specs.{declared.entry.CellKind.CellKind, Data.SlotData}
use Rattle.store_parts.proofs.records.lists
pub use lists.{bit, cond_same, contains-insert_at, contains-remove_at, contains_own, count_all}
pub use lists.{IsWritten, len_passing, many_some, many_within, number_test, passes, push_written}
pub use lists.{set_written, some_of_many}
pub use Rattle.store_parts.specs.declared.names.CellName.{CellName}
pub use Rattle.store_parts.specs.{Lists.how_many, CellNames.name_of_cell}
pub use Rattle.store_slots.specs.Removal.{live_target}
pub use Rattle.store_slots.specs.SlotRows.{all_slot_rows, entry_rows, rows_from}
pub use Rattle.store_slots.specs.SlotsState.{AreReferred, borrowed_at, content_reached, UsableCount}
pub use Rattle.store_slots.specs.SlotsState.{count_less, count_more, usable_count, given_from}
pub use Rattle.store_slots.specs.SlotsState.{has_other_count, EntryHasBegun, is_reusable, is_spent}
pub use Rattle.store_slots.specs.SlotsState.{IsReferred, IsSlotTable, IsTurned, live_from, names_up}
pub use Rattle.store_slots.specs.SlotsState.{reached, refers, refusal_of, Retirements}
pub use Rattle.store_slots.specs.SlotsState.{SlotsState, SlotTable, state_of}
pub use Rattle.store_slots.specs.SlotsState.{with_cell, with_records, would_end}
unfoldable pub use Rattle.store_slots.specs.SlotsState.{cells_of, given_of}

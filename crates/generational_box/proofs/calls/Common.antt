-- The names of machine and store that most proofs here cite, passed on from one place.
use Rattle.generational_core.proofs
pub use proofs.machine.{all_owners_read, fresh_bounded, meets_kept, read_append}
pub use proofs.machine.Calls.Steps.{close_nothing, fresh_sound}
pub use proofs.maps.Maps.{by_name, by_number, contains-insert_name, get-insert_apart}
pub use proofs.maps.Maps.{get-insert_here, insert_there, key_same, name_apart, name_cases}
pub use proofs.{maps.Maps.name_total, machine.Calls.Steps.Changes.sound_linked}
use Rattle.generational_core.specs
pub use specs.Cells.{Cell, Content, content_of, is_shared, location_of, refill}
pub use specs.Conditions.{count_under, fresh, IsBounded, names_under}
pub use specs.Ending.{cells_after, close, first_hindrance, hindrance_at}
pub use specs.Machine.{act, Action, add_cell, cell_at, has_reader, Outcome, OwnerName, point}
pub use specs.Machine.Action.{CloneOwner, End, Make, MakeShared, NewOwner, Point, Read, Refer}
pub use specs.Machine.Action.{ReleaseOwner, ReleaseReader, ReleaseWriter, SetValue, Write}
pub use specs.Machine.Answer.{BorrowRefused, Done, Flag, Made, Old, Owned, Reads, Writes}
pub use specs.State.{content_at, HasTargets, IsBoxed, IsSound, one_less, one_listed, one_more}
pub use specs.declared.boxes.GenerationalBoxId.{GenerationalBoxId}
pub use specs.declared.boxes.GenerationalPointer.{GenerationalPointer}
pub use specs.{Names.among, Answers.back_answer, Plain.bare_cells, declared.rows.BaseRow.BaseRow}
pub use specs.{declared.borrow.Borrow.Borrow, Borrowing.BorrowRefusal, Boxes.box_of}
pub use specs.{Names.change_if, Answers.end_answer, Answers.end_refused, Slots.free}
pub use specs.{Borrowing.Guard, Boxes.has_same_id, Cells.Content.Here, Sound.IsBounded-prop}
pub use specs.{Steps.IsNew, Sound.IsSound-prop, Cells.Content.Lent, Steps.limit_tickets}
pub use specs.{Steps.Meets, Names.Name, Boxes.name_in, Boxes.name_of, Names.NameMap, Steps.no_names}
pub use specs.{StepCalls.owner_of, Rows.owner_rows, State.Owners, State.Ownership, Plain.Plain}
pub use specs.{Plain.plain, Borrowing.read_refusal, Rows.read_rows, Rows.ReadBack, Cells.Cell.Ref}
pub use specs.{Rows.rows_of, Cells.Cell.Shared, Sound.SoundState, State.State}
pub use specs.{StepCalls.tells_of_borrow, Machine.unless, Cells.Cell.Value, Machine.write_at}
unfoldable pub use specs.Borrowing.{reach, refusal_to_read, refusal_to_write}
unfoldable pub use specs.{Names.change, Ending.hindrance_to, Names.is_name, Steps.may_lack}
unfoldable pub use specs.{Ending.sweep}
use Rattle.generational_errors.specs.declared
pub use declared.error.BorrowMutError.{BorrowMutError}
pub use declared.error.StoreError.TheVariants.{OutOfMemory, UnknownOwner}
pub use declared.{error.Location.Location, error.Refused.Refused, error.StoreError.StoreError}
pub use Rattle.std.proofs.Common.{ap, arith, Bool, cond, Err, false, IfNone, IfSome, inl, inr}
pub use Rattle.std.proofs.Common.{is_none, is_some, List, nat_eq, None, not, Ok, Option}
pub use Rattle.std.proofs.Common.{option_copied, refl, Result, Some, subst, sym, true, ℕ, [], ◌+◌}
pub use Rattle.std.proofs.{lemmas.Cmp.eq_by_cmp_equiv, lemmas.Map.Keys.IsDistinct-push}
pub use Rattle.std.proofs.{lemmas.Bool.Decides.nat_tests, lemmas.Bool.or_parts, Common.◌<◌}
pub use Rattle.std.proofs.{Common.◌∙◌, Common.◌∷◌, Common.◌≡◌, Common.◌≤◌}
pub use Rattle.std.specs.Cmp.{IsEquivalence, nat_cmp_total, nat_eq_equiv}
pub use Rattle.std.specs.{List.AllByRecursion, List.list_any, Ordering.nat_cmp}
unfoldable pub use Rattle.std.specs.List.{IsDistinct}
pub use Rattle.store_cells.specs.Entry.{cell_of, FoundBorrowed, less_read, readers_of}
pub use Rattle.store_cells.specs.{Data.data_in, Entries.kept_data, Data.SlotData}
pub use Rattle.store_parts.proofs.records.lists.{none_left}
pub use Rattle.store_parts.specs.OwnerRecords.{add_to_list_in, AreOwnersCounted, IsOwnerCounted, IsRefusal}
pub use Rattle.store_parts.specs.OwnerRecords.{permits, record_of}
pub use Rattle.store_parts.specs.{Borrows.AreTicketsBelow, CellNames.name_of_cell}
pub use Rattle.store_slots.specs.SlotRows.{all_slot_rows, ReadSlots}
pub use Rattle.store_slots.specs.SlotsState.{change_content, IsEndReply, IsMade, IsTurned, reached}
pub use Rattle.store_slots.specs.SlotsState.{refusal_to_write_at, SlotsState, with_records}

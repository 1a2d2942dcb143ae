-- The names that the proofs cite, passed on from one place.
use Rattle.generational_core.proofs
pub use proofs.machine.{get_bare_cell}
pub use proofs.machine.Calls.Steps.{meets_each, meets_ended, meets_given, meets_location}
pub use proofs.machine.Calls.Steps.Changes.{act_leads, after, Change, cond_gives, Filling, IsLawful}
pub use proofs.machine.Calls.Steps.Changes.{new_content, old_content, without}
pub use proofs.machine.Calls.Steps.Changes.Change.{Birth, Close, Fill, Pair, Stay, Turn}
use proofs.machine.Calls.Steps.Changes.Common
pub use Common.{act, Action, add_cell, add_to_list, among, and_from, and_parts, Answer, ap, AreNew}
pub use Common.{arith, Bool, Borrow, BorrowError, BorrowMutError, BorrowRefusal, BorrowRefused}
pub use Common.{Borrows, box_of, by_name, can_write, Cell, cell_at, cells_after, CloneOwner, close}
pub use Common.{cond, Content, content_at, content_of, Dropped, End, eq_by_cmp, eqb-true, Err}
pub use Common.{false, fill, filter, first_hindrance, fresh, GenerationalBoxId, GenerationalPointer}
pub use Common.{get-insert_here, get-keep, Guard, has_reader, has_writer, Here, hindrance_at, IfOk}
pub use Common.{inl, inr, is_known, is_shared, is_some, IsNew, IsSound, key_same, knows_reader}
pub use Common.{knows_writer, last_ticket, leads_to, length-map, Lent, limit_tickets, List}
pub use Common.{list_any, list_map, Location, location_of, Made, Make, make, MakeShared, Meets}
pub use Common.{Name, name_cmp, name_exact, name_of, name_total, NameMap, nat_eq, NewNames}
pub use Common.{NewOwner, next_borrow, no_names, None, not, NumbersExhausted, Ok, Option}
pub use Common.{option_map, Outcome, own_name, OwnerName, Ownership, ownership, Point, point, Read}
pub use Common.{read_at, Ref, Refer, refers_to, refill, refl, Refusal, Refused, release_owner}
pub use Common.{ReleaseOwner, ReleaseReader, ReleaseWriter, remove_reader, Result, set_at, SetValue}
pub use Common.{Shared, Some, State, StepCall, subst, sym, Takes, takes_ticket, tickets_of, true}
pub use Common.{true≢false, UnknownOwner, unless, unwrap_or, Value, value_at, Write, write_at, ℕ}
pub use Common.{[], ◌&&◌, ◌++◌, ◌+◌, ◌<◌, ◌||◌, ◌∙◌, ◌∷◌, ◌≡◌, ◌≤◌}
pub use proofs.machine.Calls.Steps.Changes.Filling.{Leave, Reader, Writer}
pub use proofs.maps.Maps.{get-insert_name, passes_both}
unfoldable pub use proofs.machine.Calls.Steps.Changes.Common.{change, hindrance_to, is_named, reach}
unfoldable pub use proofs.machine.Calls.Steps.Changes.Common.{refusal_to_read, refusal_to_write}
unfoldable pub use proofs.machine.Calls.Steps.Changes.Common.{sweep, take_away}
use Rattle.generational_core.specs
pub use specs.Answers.{end_refused, make_answer, read_refused, value_behind}
pub use specs.Machine.Action.{CanRead, CanWrite, LeakOwner}
pub use specs.Rows.{borrow_rows, cell_rows, read_row, read_rows, ReadBack, reader_row, rows_of}
pub use specs.Slots.{is_free, last_name, slots, slots_of}
pub use specs.StepCalls.{is_hindered, is_ready, owner_of, recorded_as, target_of, tells_of_borrow}
pub use specs.{Plain.bare_cell, declared.rows.BaseRow.BaseRow, Names.change_if, Boxes.id_of}
pub use specs.{Machine.own_cell, Plain.plain, Rows.slot_rows, Rows.told_by}
pub use Rattle.generational_errors.specs.Texts.{same_location}
pub use Rattle.generational_laws.proofs.callers.carrying.{get_bare, plain_meets}
pub use Rattle.generational_laws.specs.History.{plain_answer, plain_call}
pub use Rattle.shared_state.specs.Answering.{MayAnswer, TakesTicket}
pub use Rattle.shared_state.specs.Keeping.{HasEnded, IsAnswered, IsHindered, IsKept, IsStepRecorded}
pub use Rattle.shared_state.specs.Keeping.{shared, WasAnswered, WasRefused}
pub use Rattle.shared_state.specs.Relocating.{IsStateRelocated, HistoryLeadsTo, relocate_borrow, relocate_cell}
pub use Rattle.shared_state.specs.Relocating.{relocate_content}
pub use Rattle.shared_state.specs.Shared.{IsCheckpoint, IsHistory, IsStep, Replays}
pub use Rattle.shared_state.specs.Shared.{SharedState}
pub use Rattle.shared_history.proofs.Appending.{all_kinds}
pub use Rattle.shared_history.specs.Bases.{all_trimmed, BaseState, counts_of, new_base, plain_of}
pub use Rattle.shared_history.specs.History.{action_of, are_new, first_name, gives_new, GivesNew}
pub use Rattle.shared_history.specs.History.{guard_at, is_lawful, is_new, IsTaken, LeadsOver}
pub use Rattle.shared_history.specs.History.{names_of_reply, Plain, reader_cell, replay_from}
pub use Rattle.shared_history.specs.History.{replay_on, start, step_by, writer_cell}
pub use Rattle.shared_history.specs.Replies.{is_recorded, answer_kind, raised_by, recorded_reply}
pub use Rattle.shared_history.specs.Replies.{Records, same_reply}
pub use Rattle.shared_history.specs.Standing.{borrows, borrow_count_in, borrow_count_of, ends_borrow}
pub use Rattle.shared_history.specs.Standing.{leaves, lent_by}
pub use Rattle.shared_history.specs.declared.base.TrimmedSteps.{TrimmedSteps}
pub use Rattle.shared_history.specs.{Logs.Bases, Counts.Counts, Logs.LogState, Bases.Trims}
unfoldable pub use Rattle.shared_history.specs.History.{plain_step}
pub use Rattle.shared_records.specs.Kinds.{referred_by, step_kind, step_of}
pub use Rattle.shared_records.specs.Letters.{AppendsStep, lettered, relocate_box, relocate_call, relocate_reply}
pub use Rattle.shared_records.specs.{declared.step.Step.Step, declared.step.StepReply.StepReply}
pub use Rattle.std.proofs.Common.{IfSome, length, length-append, rules, ◌^◌}
pub use Rattle.std.proofs.lemmas.List.{map-append}
pub use Rattle.std.specs.Cmp.Lexicographic.{pointwise}
pub use Rattle.std.specs.Prelude.{option_copied, option_to_list}
pub use Rattle.std.specs.declared.cmp.Ordering.TheVariants.{Equal, Less}
pub use Rattle.std.specs.{FinMap.Entries.below_all, Ordering.is_lt, Bool.OnTrue, Vec.vec_items}
pub use Rattle.store_rows.proofs.Unpacking.{both_past, owners_past}
pub use Rattle.store_rows.specs.Past.{ArePast, IsPast, WasMadeAt}

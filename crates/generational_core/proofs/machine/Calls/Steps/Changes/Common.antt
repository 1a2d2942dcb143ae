-- The names that the proofs cite, passed on from one place.
use Rattle.generational_core.specs
pub use specs.Answers.{back_answer, box_answer, end_answer, free_read_answer, free_write_answer}
pub use specs.Answers.{owner_answer, pointer_of, read_answer, reference_box_answer, release_answer}
pub use specs.Answers.{value_at, value_behind, value_of, write_answer, WriteGuard}
pub use specs.Borrowing.{BorrowRefusal, can_read, can_write, fill, Guard, leads_to, read_refusal}
pub use specs.Borrowing.{refusal_at, take_ticket, write_refusal}
pub use specs.Cells.{Cell, Content, content_of, is_shared, location_of, refers_to, refill}
pub use specs.Conditions.{fresh, IsBounded, IsEnded, IsLinked, IsLive, IsNamed, IsReleased, names_in}
pub use specs.Ending.{cells_after, close, first_hindrance, hindrance_at, hindrance_of}
pub use specs.Machine.{act, Action, add_cell, add_to_list, Answer, cell_at, clone_owner, has_reader}
pub use specs.Machine.{has_writer, is_known, knows_reader, knows_writer, make, NewNames, next_borrow}
pub use specs.Machine.{Outcome, own_name, OwnerName, ownership, point, read_at, refer}
pub use specs.Machine.{release_owner, remove_reader, set_at, set_ownership, unless, write_at}
pub use specs.Machine.Action.{CloneOwner, End, Make, MakeShared, NewOwner, Point, Read, Refer}
pub use specs.Machine.Action.{ReleaseOwner, ReleaseReader, ReleaseWriter, SetValue, Write}
pub use specs.Machine.Answer.{Back, BorrowRefused, Done, Flag, Made, Old, Owned, Reads, Refused, Writes}
pub use specs.Names.{among, Name, name_cmp, NameMap, Names}
pub use specs.Seeing.{Borrows, ending, LeavesBox, LeavesUnborrowed, LeavesValue, Lends, Turns}
pub use specs.Seeing.{value_reached}
pub use specs.Slots.{free, is_free, is_last_live, is_retired, last_name, retired, slots, slots_of}
pub use specs.State.{content_at, HasTargets, IsBoxed, IsGiven, IsSound, one_less, one_listed, one_more}
pub use specs.State.{Owners, Ownership, Stands, State, tickets_at, tickets_of}
pub use specs.Steps.{AreNew, IsNew, last_ticket, limit_tickets, Meets, needs_memory, no_names, Takes}
pub use specs.Steps.{takes_ticket, want}
pub use specs.{declared.borrow.Borrow.Borrow, Boxes.box_of, Borrowing.BorrowRefusal.Dropped}
pub use specs.{declared.boxes.GenerationalBox.GenerationalBox}
pub use specs.{declared.boxes.GenerationalBoxId.GenerationalBoxId}
pub use specs.{declared.boxes.GenerationalPointer.GenerationalPointer, Boxes.has_same_id}
pub use specs.{Cells.Content.Here, Leaving.IsSet, Leaving.IsUnchanged, Cells.Content.Lent}
pub use specs.{Keeping.location_at, Boxes.name_of, Cells.Cell.Ref, Keeping.Sets, Cells.Cell.Shared}
pub use specs.{declared.steps.StepCall.StepCall, Cells.Cell.Value}
use Rattle.generational_errors.specs.declared.error
pub use error.{BorrowError.BorrowError, BorrowMutError.BorrowMutError, Location.Location}
pub use error.{StoreError.TheVariants.NumbersExhausted, Refusal.Refusal, StoreError.StoreError}
pub use error.{StoreError.TheVariants.UnknownOwner}
use Rattle.std.proofs
pub use proofs.Common.{ap, arith, Bool, cond, false, inl, inr, List, None, not, Option, refl, Some, subst}
pub use proofs.Common.{sym, take, true, [], ℕ, ⊎_elim, ◌++◌, ◌+◌, ◌<◌, ◌||◌, ◌∙◌, ◌∷◌, ◌≡◌, ◌≢◌, ◌≤◌}
pub use proofs.lemmas.Bool.{and_from, and_parts, cases_Bool, cases_lt, cond_both, eq-eqb, eqb-true}
pub use proofs.lemmas.Bool.{false_from_ne_true, le-ltb, lt-ltb}
pub use proofs.lemmas.Bool.{or_cases, or_left, or_parts, or_right, true≢false}
pub use proofs.{lemmas.Map.Keys.IsDistinct-push, lemmas.Map.Made.length-le_from_is_member}
pub use proofs.{lemmas.List.length-map, lemmas.List.Folds.list_any-append}
pub use Rattle.std.specs.Prelude.{Err, IfOk, is_none, is_some, IsErr, IsOk, map as list_map, max, nat_eq}
pub use Rattle.std.specs.Prelude.{nat_lt, Ok, OnOk, option_map, Result, unwrap_or, ◌&&◌, ◌⊎◌}
pub use Rattle.std.specs.{List.AllByRecursion, Cmp.both_ways, Ordering.eq_by_cmp, Cmp.eq_by_cmp_equiv}
pub use Rattle.std.specs.{List.filter, List.list_any, Ordering.nat_cmp, Cmp.nat_cmp_total}
pub use Rattle.std.specs.{Cmp.nat_eq_equiv, Option.option_or}
use Rattle.generational_core.proofs.maps.Maps
pub use Maps.{by_keys, by_name, by_number, by_option, changed_view, contains-insert_here}
pub use Maps.{contains-insert_name, contains-insert_old, get-changed_apart, get-changed_here}
pub use Maps.{get-changed_name, get-insert_apart, get-insert_here, get-keep, get-remove_apart}
pub use Maps.{get-remove_here, is_ref, keep_view, kept_key, key_cases, key_here, key_same, keys_apart}
pub use Maps.{len_from, len_keys, len_parts, len_within, name_apart, name_cases, name_exact, name_here, name_same}
pub use Maps.{name_total, named_from, named_gives, remove_each, same_ids}
unfoldable pub use specs.{Names.change, Ending.hindrance_to, Names.is_name, State.is_named}
unfoldable pub use specs.{Steps.may_lack, Borrowing.reach, Borrowing.refusal_to_read}
unfoldable pub use specs.{Borrowing.refusal_to_write, Ending.sweep, Ending.take_away, Seeing.value_in}
unfoldable pub use Rattle.std.specs.List.{IsDistinct}

-- The names that the proofs cite, passed on from one place.
pub use Rattle.generational_core.proofs.machine.{fresh_bounded, given_other, lasts_insert, leaves}
pub use Rattle.generational_core.proofs.machine.{meets_bounded, no_slots, release_leaves}
use Rattle.generational_core.proofs.machine.Calls
pub use Calls.{boxed_stays, ends, ends_free, ends_owned, keeps, keeps_free, keeps_reach}
pub use Calls.{keeps_record, keeps_unowned, listed_last, lists, made, made_apart, made_boxed}
pub use Calls.{made_free, made_shared, made_shared_free, owned, points, reads_back, referred}
pub use Calls.{referred_apart, referred_reach, referred_together, unlisted, unread, unseen}
pub use Calls.{writes_back}
use Rattle.generational_core.proofs.machine.Calls.Steps
pub use Steps.{act_start, ended_read, ended_write, ends_reader, ends_writer, free_reads, free_sees}
pub use Steps.{fresh_sound, is_refusal, made_new, meets_cases, meets_ended, meets_given}
pub use Steps.{meets_location, meets_next, meets_number, meets_says, meets_sound, meets_start}
pub use Steps.{meets_value, named_shared, reader_stays, reads_known, ref_reaches, rests, rests_free}
pub use Steps.{takes_new, writer_stays, writes_known}
use Rattle.generational_core.proofs.machine.Calls.Steps.Changes
pub use Changes.{act_says, AreFresh, box_ends, box_stays, by_cond, is_making, IsNewBox, last_cells}
pub use Changes.{listed_boxed, new_fresh, shared_ends, shared_stays, some_live, wants}
use Rattle.generational_core.proofs.machine.Calls.Steps.Changes.Common as core
pub use core.{act, Action, add_cell, add_to_list, AllByRecursion, among, and_parts, Answer, ap}
pub use core.{AreNew, arith, Bool, Borrow, BorrowMutError, BorrowRefusal, BorrowRefused, box_of}
pub use core.{by_name, by_number, can_read, can_write, Cell, cell_at, cells_after, changed_view}
pub use core.{clone_owner, CloneOwner, close, cond, cond_both, contains-insert_name}
pub use core.{contains-insert_old, Content, content_at, content_of, Done, Dropped, End, eq-eqb}
pub use core.{eq_by_cmp, eqb-true, false, false_from_ne_true, fill, filter, first_hindrance, Flag}
pub use core.{fresh, GenerationalPointer, get-insert_apart, get-insert_here, get-keep}
pub use core.{get-remove_apart, Guard, has_reader, has_same_id, has_writer, Here, hindrance_at, inl}
pub use core.{inr, is_known, is_named, is_shared, is_some, IsBounded, IsEnded, IsGiven, IsNew}
pub use core.{IsReleased, IsSound, keep_view, key_cases, key_here, key_same, keys_apart}
pub use core.{last_ticket, len_keys, Lent, limit_tickets, List, list_any, list_any-append, Location}
pub use core.{location_of, Made, Make, make, MakeShared, Meets, Name, name_apart, name_cases}
pub use core.{name_cmp, name_exact, name_here, name_of, name_total, named_from, named_gives}
pub use core.{NameMap, Names, nat_cmp, nat_cmp_total, nat_eq, nat_eq_equiv, nat_lt, needs_memory}
pub use core.{NewNames, NewOwner, next_borrow, no_names, None, not, NumbersExhausted, Old, one_less}
pub use core.{one_listed, one_more, OnOk, Option, option_map, or_cases, or_left, or_right, Outcome}
pub use core.{Owned, OwnerName, Owners, Ownership, ownership, point, Read, read_at, read_refusal}
pub use core.{Reads, Ref, Refer, refer, refill, refl, Refused, release_owner, ReleaseOwner}
pub use core.{ReleaseWriter, remove_reader, set_at, set_ownership, Shared, Some, State, StoreError}
pub use core.{subst, sym, take_ticket, Takes, takes_ticket, true, true≢false, UnknownOwner, unless}
pub use core.{Value, value_at, want, Write, write_at, write_refusal, Writes, ℕ, [], ⊎_elim, ◌++◌}
pub use core.{◌+◌, ◌<◌, ◌||◌, ◌∙◌, ◌∷◌, ◌≡◌, ◌≢◌, ◌≤◌, ◌⊎◌}
pub use Rattle.generational_core.proofs.maps.Maps.{changed_there, contains-insert_apart}
pub use Rattle.generational_core.proofs.maps.Maps.{get-insert_name}
use Rattle.generational_core.proofs.machine.Calls.Steps.Changes.Common as core
unfoldable pub use core.{change, hindrance_to, is_name, IsDistinct, may_lack, reach}
unfoldable pub use core.{refusal_to_read, refusal_to_write, sweep, take_away}
pub use Rattle.generational_core.specs.Answers.{back_answer, end_refused, pointer_of}
pub use Rattle.generational_core.specs.declared.boxes.GenerationalBox.{GenerationalBox}
pub use Rattle.generational_core.specs.{Machine.Answer.Back, Conditions.count_under, Slots.free}
pub use Rattle.generational_core.specs.{Slots.is_free, Conditions.IsFresh, Leaving.IsUnchanged}
pub use Rattle.generational_core.specs.{Machine.Action.LeakOwner, Machine.own_cell, Slots.slots_of}
unfoldable pub use Rattle.generational_core.specs.{Slots.lasts, Seeing.value_in}
pub use Rattle.generational_errors.specs.declared.error.StoreError.TheVariants.{OutOfMemory}
use Rattle.generational_laws.proofs.callers.carrying.Cells
pub use Cells.{act_matched, all_push, created_moved, IfThere, KnowsAnswer, KnowsCall}
pub use Cells.{KnowsNewNames, Matched, read_moved, rename_action, rename_answer}
pub use Cells.{rename_new_names, same_box_moved, some_map, write_moved}
pub use Rattle.generational_laws.proofs.callers.{stays_listed}
pub use Rattle.generational_laws.specs.ListedOnce.{AreListedOnce}
use Rattle.generational_laws.specs.Carrying
pub use Carrying.{Carries, CarriesCells, KnowsBox, KnowsGuard, rename_box, rename_cell}
pub use Carrying.{rename_content, rename_guard, rename_ownership, shift_borrow, shift_owner}
pub use Rattle.generational_sessions.specs.Disturbance.{AskedSets, IsUndisturbed, Undisturbed}
pub use Rattle.generational_laws.specs.History.{bare, plain, plain_answer, plain_call}
pub use Rattle.generational_laws.specs.History.{without_values}
use Rattle.generational_sessions.specs.Numbered
pub use Numbered.{answers, AnswersAs, AreListed, AreNumbersBelow, CarriesSession, empty_session}
pub use Numbered.{erase, IsNumberBelow, KnowsHeld, Matches, name_numbered, next_numbers, number}
pub use Numbered.{numbered, numbered_act, refusal_in, rename_held}
pub use Rattle.generational_sessions.specs.Places.{as_held, as_refusal, as_replies, as_reply}
pub use Rattle.generational_sessions.specs.Places.{exchange, Gives, GivesAsked, as_session}
use Rattle.generational_sessions.specs.Replies
pub use Replies.{AllKeepPromises, AllTellEnds, EndsOwned, GiveBoxesApart, GivesNewBox, KeepBoxes}
pub use Replies.{NeedsBox, RefusalLeavesAll, tells_error, TellsEnds, TellsExhaustion, TellsLack}
use Rattle.generational_sessions.specs.Session
pub use Session.{add_place, ask, at_place, box_held, box_in, gives, Held, owner_held, owner_in}
pub use Session.{refusal, release, release_all, replace, reply_of, Request, Run, SessionReply}
pub use Session.{SessionState, SessionStep, settle, Settles, spend, swap, with_owner}
pub use Rattle.generational_sessions.specs.Session.Held.{Boxed, Nothing, Owning, Reading, Writing}
pub use Rattle.generational_sessions.specs.Session.Request.{Asks, Swaps, Tells}
pub use Rattle.generational_sessions.specs.Session.SessionReply.{ABox, IsDone}
pub use Rattle.generational_sessions.specs.SoundSession.{holds_owner, IsSoundSession}
pub use Rattle.generational_sessions.specs.declared.calls.BoxAt.{BoxAt}
pub use Rattle.generational_sessions.specs.declared.calls.BoxAt.TheVariants.{Foreign, Place}
pub use Rattle.generational_sessions.specs.declared.calls.Call.{Call}
pub use Rattle.generational_sessions.specs.declared.calls.Reply.{Reply}
pub use Rattle.generational_sessions.specs.declared.places.Thing.{Thing}
pub use Rattle.generational_sessions.specs.declared.places.Thing.TheVariants.{Owner, Reader, Writer}
unfoldable pub use Rattle.generational_laws.specs.History.{bare_cells}
unfoldable pub use Rattle.generational_sessions.specs.SoundSession.{AreOne, IsStoresOwn}
pub use Rattle.std.proofs.Common.{append_assoc, length, Ok, Result, reverse, rules, slice_get}
pub use Rattle.std.proofs.Common.{slice_set, suc, unwrap_or, vec_capacity, vec_len, zero, ◌&&◌, ◌-◌}
pub use Rattle.std.proofs.lemmas.List.{append-nil, get_or_append_left, get_or_push, length_push}
pub use Rattle.std.proofs.lemmas.List.{map-append, map-id, map-set, reverse-append, reverse-reverse}
pub use Rattle.std.proofs.lemmas.List.Folds.{list_any_at}
pub use Rattle.std.proofs.lemmas.List.Sums.{sum_by_push}
pub use Rattle.std.proofs.{lemmas.Grind.common_steps, lemmas.Option.gets, lemmas.List.set-get_or}
pub use Rattle.std.specs.Prelude.{is_err, map, map as list_map}
pub use Rattle.std.specs.{List.count_by, Cmp.unsigned_tied}
